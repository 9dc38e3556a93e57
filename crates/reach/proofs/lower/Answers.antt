-- `reach::lower` meets its contract. Assumes nothing.
use native.Mathlib.Omega.{arith}
use lib.ListN.{get_or}
use lib.IntN.{pos}
use Rattle.format.specs.Reach.{axis_x, axis_y, axis_z, lesser}
use Rattle.reach.proofs.Numbers.{came, row_made}
use Rattle.reach.proofs.lower.Goals as goal

pub returns : goal.returns
returns c =
    row_made lesser c.args.row c.args.p
    (came (λ x. lesser x (axis_x c.args.p)) (get_or c.args.row 0 (pos 0)) c.lesser_of.result (omega arith) c.lesser_of.type_inv c.lesser_of.ensures)
    (came (λ x. lesser x (axis_y c.args.p)) (get_or c.args.row 1 (pos 0)) c.lesser_of-2.result (omega arith) c.lesser_of-2.type_inv c.lesser_of-2.ensures)
    (came (λ x. lesser x (axis_z c.args.p)) (get_or c.args.row 2 (pos 0)) c.lesser_of-3.result (omega arith) c.lesser_of-3.type_inv c.lesser_of-3.ensures)
