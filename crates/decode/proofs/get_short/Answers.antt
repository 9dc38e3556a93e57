-- `decode::get_short` meets its contract. Assumes nothing.
use Prim.Native.Nat.{ℕ, suc, ◌<◌, ◌-◌}
use mathlib.Core.Path.{◌≡◌, ap, ◌∙◌}
use native.Mathlib.Omega.{arith}
use borrow.Author.Tests.{ltb-true, ltb-false}
use mir.Syntax.{w16, w32}
use mir.Val.{of_z, to_z}
use mir.ValLaws.{to_z-of_z, to_z_pos, to_z-neg}
use Rattle.format.specs.Bytes.{widened, le16}
use Rattle.format.proofs.Basics.{pick_case}
use Rattle.decode.proofs.get_short.Goals as goal

-- an i16's bits, as those of the same number in an i32
widened_bits : (n : ℕ) → n < 65536 → of_z w32 (to_z w16 n) ≡ widened n
unfolding widened
widened_bits n h =
    pick_case (λ (k : ℕ). of_z w32 (to_z w16 n) ≡ k) _ _ _
    (λ e. ap (of_z w32) (to_z_pos w16 n (ltb-true n 32768 e)))
    (λ e.
    let l = ltb-false n 32768 e in
    let below : n ≡ 65536 - suc (65535 - n) = omega (arith, l, h) in
    ap (λ (m : ℕ). of_z w32 (to_z w16 m)) below ∙ ap (of_z w32) (to_z-neg w16 (65535 - n) (omega (arith, l, h))) ∙ omega (arith, l, h))

pub returns : goal.returns
unfolding le16
returns c =
    let low = c.type_inv.s 0 in
    let high = c.type_inv.s 1 in
    c.cast_unsigned.ensures ∙ ap (of_z w32) (to_z-of_z w32 _ (record { sfits = c.from.type_inv }) ∙ c.from.ensures ∙ to_z-of_z w16 _ (record { sfits = c.from_le_bytes-n.type_inv }) ∙ c.from_le_bytes-n.ensures) ∙ widened_bits _ (omega (arith, low.fits, high.fits))
