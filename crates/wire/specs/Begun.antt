-- A comparison under way. Assumes nothing.
use Rattle.std.specs.Prelude.{ℕ, ◌+◌, ◌≤◌, ◌≡◌, List, length, drop}
use Rattle.format.specs.Codes.{common}

-- i bytes of l and m, and those that what is left has in common, are all that both have in common
abbrev pub Begun : List ℕ → List ℕ → ℕ → Type 0
Begun l m i = (i ≤ length l) × (i ≤ length m) × (i + common (drop i l) (drop i m) ≡ common l m)
