-- `viewer::place_at_lem` meets its contract. Assumes nothing.
use mathlib.Core.Path.{refl}
use Rattle.reach.proofs.Numbers.{read}
use Rattle.viewer.proofs.place_at.Goals as goal

pub returns : goal.returns
returns c =
    let bits-x = read c.signed_of.result c.signed_of.type_inv in
    let bits-y = read c.signed_of-2.result c.signed_of-2.type_inv in
    let bits-z = read c.signed_of-3.result c.signed_of-3.type_inv in
    rw (bits-x, bits-y, bits-z, c.signed_of.ensures, c.signed_of-2.ensures, c.signed_of-3.ensures, c.point-p.ensures) refl
