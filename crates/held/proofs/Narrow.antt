-- A number that was widened is itself again when narrowed. Assumes nothing.
use Prim.Native.Nat.{ℕ, ◌%◌, ◌<◌}
use mathlib.Core.Path.{◌≡◌, ◌∙◌}
use native.Mathlib.Nat.{mod-eq_of_lt}

pub narrow : {r x n : ℕ} → (r ≡ x) × (r < n) → r % n ≡ x
narrow h = mod-eq_of_lt h.1 ∙ h.0
