-- `layout::put_leg` meets its contract. Assumes nothing.
use Rattle.layout.proofs.Laws.{leg_laid}
use Rattle.layout.proofs.put_leg.Goals as goal

pub returns : goal.returns
returns c =
    leg_laid c.args.out.now c.args.fields c.args.len _ _ _ _ _ c.requires.1 c.put_start.ensures
    c.put_byte.ensures
    c.put_date.ensures c.put_point.ensures c.put_point-2.ensures
