-- A run over a list, front by front, each front at least one element long. Assumes nothing.
use Rattle.std.specs.Prelude.{ℕ, zero, suc, ◌+◌, List, length, drop}

-- `step at s x go` is what comes of s, with `at` elements before it, in the state x: `go n x'` is what comes n elements further on in the
-- state x'. The first number counts the steps that may still be made; a list has no more fronts than elements, so it is never used up,
-- and the law `iter_eq` is the equation to read
unfoldable pub iter_up : {S X : Type 0} → (ℕ → List ℕ → S → (ℕ → S → X) → X) → (ℕ → X) → ℕ → ℕ → List ℕ → S → X
iter_up step base zero at s x = base at
iter_up step base (suc f) at s x = step at s x (λ n x'. iter_up step base f (at + n) (drop n s) x')

unfoldable pub iter : {S X : Type 0} → (ℕ → List ℕ → S → (ℕ → S → X) → X) → (ℕ → X) → ℕ → List ℕ → S → X
iter step base at s x = iter_up step base (suc (length s)) at s x
