-- `write_v7::put_item` meets its contract. Assumes nothing.
use Rattle.write_v7.proofs.Turn.{lays_part}
use Rattle.write_v7.proofs.put_item.Goals as goal

pub returns : goal.returns
returns c =
    let W = c.within-start.ensures in
    lays_part _ _ _ _ _ _ _ W.0 W.1 c.put_placed-n.ensures
