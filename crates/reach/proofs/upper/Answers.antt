-- `reach::upper` meets its contract. Assumes nothing.
use native.Mathlib.Omega.{arith}
use lib.ListN.{get_or}
use lib.IntN.{pos}
use Rattle.format.specs.Reach.{axis_x, axis_y, axis_z, greater}
use Rattle.reach.proofs.Numbers.{came, row_made}
use Rattle.reach.proofs.upper.Goals as goal

pub returns : goal.returns
returns c =
    row_made greater c.args.row c.args.p
    (came (λ x. greater x (axis_x c.args.p)) (get_or c.args.row 0 (pos 0)) c.greater_of.result (omega arith) c.greater_of.type_inv c.greater_of.ensures)
    (came (λ x. greater x (axis_y c.args.p)) (get_or c.args.row 1 (pos 0)) c.greater_of-2.result (omega arith) c.greater_of-2.type_inv c.greater_of-2.ensures)
    (came (λ x. greater x (axis_z c.args.p)) (get_or c.args.row 2 (pos 0)) c.greater_of-3.result (omega arith) c.greater_of-3.type_inv c.greater_of-3.ensures)
