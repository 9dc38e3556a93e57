-- `step::lesser` meets its contract. Assumes nothing.
use Rattle.std.specs.Prelude.{min}
use Prim.Native.Nat.{ℕ}
use mathlib.Core.Path.{◌≡◌, ◌∙◌}
use native.Mathlib.Omega.{arith}
use borrow.Author.Tests.{ltb-true, ltb-false}
use Rattle.format.proofs.Basics.{pick_case}
use Rattle.step.specs.Standing.{lesser}
use Rattle.step.proofs.lesser.Goals as goal

least : (a b : ℕ) → min a b ≡ lesser a b
unfolding lesser
least a b =
    pick_case (λ (n : ℕ). min a b ≡ n) _ _ _ (λ e. let l = ltb-true b a e in omega arith) (λ e. let l = ltb-false b a e in omega arith)

pub returns : goal.returns
returns c = c.min.ensures ∙ least _ _
