-- `part::put` meets its contract. Assumes nothing.
use Rattle.part.proofs.Laying.{put_none, put_some}
use Rattle.part.proofs.put.Goals as goal

pub returns-then-out-end : goal.returns-then-out-end
returns-then-out-end c =
    put_none c.args.out.now c.args.s.now c.args.at c.if-out-end.true

pub returns : goal.returns
returns c =
    put_some c.args.out.now
    c.args.s.now c.args.at
    c.if-out-end.false _ c.copy.ensures
