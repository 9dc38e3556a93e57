-- `length::long_part` meets its contract. Assumes nothing.
use native.Mathlib.Omega.{arith}
use borrow.Author.Rules.{part_to_end}
use mathlib.Core.Path.{refl, sym, ap, ◌∙◌}
use Rattle.length.proofs.Numbers.{long_none, long_half, long_both}
use Rattle.format.specs.Items.{length_size, length_value}
use lib.Seq.{drop-drop}
use Rattle.length.proofs.long_part.Goals as goal

pub returns-in_err-drop : goal.returns-in_err-drop
returns-in_err-drop c =
    let e = simp part_to_end at c.in_err-drop.ensures in
    rw c.from_residual.ensures (long_none _ 0 (sym e) refl, tt)

pub returns-in_err-add : goal.returns-in_err-add
returns-in_err-add c =
    let d = c.in_ok-drop.ensures in
    let e = simp part_to_end at d.0 in
    let z = sym (drop-drop c.in_ok-drop.drop.size 1 c.args.t.now) in
    let h = simp part_to_end at c.in_err-add.ensures in
    rw c.from_residual-in_err-add.ensures (long_half _ _ e 0 (sym h ∙ ap length_size (sym z)) (λ k. absurd (omega (arith, d.2))) refl, tt)

pub returns : goal.returns
returns c =
    let d = c.in_ok-drop.ensures in
    let a = c.in_ok-add.ensures in
    let e = simp part_to_end at d.0 in
    let z = drop-drop c.in_ok-drop.drop.size 1 c.args.t.now in
    let f = (simp part_to_end at a.0) ∙ ap length_size z in
    let v = simp part_to_end at d.1 in
    let w = (simp part_to_end at a.1) ∙ ap length_value z in
    (long_both _ _ e _ f (λ k. absurd (omega (arith, d.2))) (λ k. absurd (omega (arith, a.2))) _ _ v w, (omega (arith, d.3, a.3), a.5))
