-- `write_v7::finish` meets its contract. Assumes nothing.
use Rattle.format.specs.Writing.{v7}
use Rattle.counts.proofs.Left.{finish_closed}
use Rattle.write_v7.proofs.finish.Goals as goal

pub returns : goal.returns
returns c =
    let W = c.within-start.ensures in
    finish_closed v7 _ _ (record { bytes = c.args.total; records = c.args.number; fault = c.args.fault }) _ _ _ _ W.0 W.1
    c.put_closing-n.ensures _ c.settle.ensures
