-- The equation of `iter`, and what holds of a run by what each step keeps. Assumes nothing.
use mathlib.Core.Path.{◌≡◌}
use mathlib.Core.List.{List}
use Prim.Native.Nat.{ℕ, zero, suc, ◌+◌, ◌≤◌, ◌<◌}
use native.Mathlib.Nat.{le_refl}
use native.Mathlib.Omega.{arith}
use lib.ListN.{length, drop, length-drop}
use Rattle.format.specs.Iterate.{iter_up, iter}

-- where a step looks only at fronts of one element or more that are there, the count of steps does not matter
module _ {S X : Type 0} (step : ℕ → List ℕ → S → (ℕ → S → X) → X) (base : ℕ → X)
    (cong : (at : ℕ) (s : List ℕ) (x : S) (f g : ℕ → S → X) → ((k : ℕ) (x' : S) → 0 < k → k ≤ length s → f k x' ≡ g k x') → step at s x f ≡ step at s x g) where
  enough : (f g at : ℕ) (s : List ℕ) (x : S) → length s < f → length s < g → iter_up step base f at s x ≡ iter_up step base g at s x
  unfolding iter_up
  enough zero g at s x hf hg = absurd (omega arith)
  enough (suc f) zero at s x hf hg = absurd (omega arith)
  enough (suc f) (suc g) at s x hf hg =
      cong at s x _ _ λ k x' h0 h1. enough f g (at + k) (drop k s) x' (simp length-drop (omega arith)) (simp length-drop (omega arith))

  pub iter_eq : (at : ℕ) (s : List ℕ) (x : S) → iter step base at s x ≡ step at s x (λ n x'. iter step base (at + n) (drop n s) x')
  unfolding iter iter_up
  iter_eq at s x =
      cong at s x _ _ λ k x' h0 h1. enough (length s) (suc (length (drop k s))) (at + k) (drop k s) x' (simp length-drop (omega arith)) (le_refl _)

-- what each step keeps holds of a run
module _ {S X : Type 0} (step : ℕ → List ℕ → S → (ℕ → S → X) → X) (base : ℕ → X) (P : List ℕ → S → X → Type 0)
    (none : (at : ℕ) (s : List ℕ) (x : S) → P s x (base at))
    (more : (at : ℕ) (s : List ℕ) (x : S) (go : ℕ → S → X) → ((k : ℕ) (x' : S) → P (drop k s) x' (go k x')) → P s x (step at s x go)) where
  ind_up : (f at : ℕ) (s : List ℕ) (x : S) → P s x (iter_up step base f at s x)
  unfolding iter_up
  ind_up zero at s x = none at s x
  ind_up (suc f) at s x = more at s x _ (λ k x'. ind_up f (at + k) (drop k s) x')

  pub iter_ind : (at : ℕ) (s : List ℕ) (x : S) → P s x (iter step base at s x)
  unfolding iter
  iter_ind at s x = ind_up (suc (length s)) at s x
