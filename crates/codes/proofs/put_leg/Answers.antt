-- `codes::put_leg` meets its contract. Assumes nothing.
use Rattle.part.proofs.Laying.{lays_then}
use Rattle.codes.proofs.put_leg.Goals as goal

pub returns : goal.returns
returns c =
    lays_then c.put_style-a.ensures
    (lays_then c.put_new_date_if-b.ensures
    (lays_then c.put_move_if-c.ensures c.put_line.ensures))
