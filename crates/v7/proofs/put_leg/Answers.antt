-- `v7::put_leg` meets its contract. Assumes nothing.
use Rattle.part.proofs.Laying.{lays_then}
use Rattle.format.specs.Bytes.{to_le32}
use Rattle.v7.proofs.put_leg.Goals as goal

pub returns : goal.returns
unfolding to_le32
returns c =
    let p = c.point_bytes-bytes.ensures in
    lays_then c.put_date_if-a.ensures (lays_then c.put_move_if-b.ensures (rw p at
    c.put_labelled.ensures))
