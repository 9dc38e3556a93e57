-- The label that a record leaves, kept in a buffer. Assumes nothing.
use Rattle.std.specs.Prelude.{ℕ, ◌≤◌, ◌≡◌, List, length, take}
use Rattle.format.specs.Label.{label_limit}
use Rattle.format.specs.Codes.{label_after}
use Rattle.format.specs.Fields.{record_of}
use Rattle.format.specs.declared.Fields.{Fields}

-- the buffer holds the name, of r bytes
pub record Swaps (b name : List ℕ) (r : ℕ) : Type 0 where
  pub label_is : take r b ≡ name
  pub label_short : r ≤ label_limit
  pub label_whole : length b ≡ 4096

-- the buffer b held a label of len bytes, and b' holds the one after the record, of r
abbrev pub Keeps : List ℕ → List ℕ → ℕ → List ℕ → Fields → ℕ → Type 0
Keeps b b' len name f r = Swaps b' (label_after (take len b) (record_of f name)) r
