-- `laying::lay_line` meets its contract. Assumes nothing.
use Rattle.std.specs.Prelude.{None, Some}
use mathlib.Core.Path.{◌≡◌, refl, sym, ap, ◌∙◌}
use Prim.Native.Nat.{ℕ}
use native.Mathlib.Omega.{arith}
use Rattle.format.specs.declared.Point.{Point}
use Rattle.laying.proofs.lay_line.Goals as goal

-- a position is not set and unset
not_both : {X : Type 0} (p : Point) → None ≡ Some p → X
not_both p e = absurd (let z : ◌≡◌ {A = ℕ} 0 1 = cc in omega arith)

pub returns-in_err-from : goal.returns-in_err-from
returns-in_err-from c =
    let e = c.in_err-from.was in
    record { unset = λ q. (c.from_residual.ensures, refl, refl); led = λ from q. not_both from (sym e ∙ q) }

pub returns : goal.returns
returns c =
    let L = c.lay_leg.ensures in
    let g = c.leg_at-leg.ensures in
    let e = c.in_ok-from.was in
    record {
      unset = λ q. not_both _ (sym q ∙ e);
      led = λ from q.
          let y : Some from ≡ Some c.in_ok-from.from = sym q ∙ e in
          let z : from ≡ c.in_ok-from.from = cc in
          rw z (ap Some (rw g at L.answer), L.label, rw g at L.sheet);
    }
