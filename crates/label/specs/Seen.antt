-- What the code's enums say in document 01's terms. Assumes nothing.
use Rattle.std.specs.Prelude.{ℕ, ◌+◌, ◌-◌, ◌≤◌, ◌≡◌, List, length, take, ltb, ◌⊎◌, Option, Some, None, Result, Ok, Err}
use Rattle.format.specs.Bytes.{pick}
use Rattle.format.specs.Label.{Labelled, too_short, too_long, labelled, label_limit}
use Rattle.format.specs.declared.Fault.{Fault}
use Rattle.format.specs.declared.Fault.TheVariants.{LabelTooShort, LabelTooLong}
use Rattle.label.specs.declared.Relabelled.{Relabelled}

-- what stays of len bytes after n of them are dropped, where least have to stay
unfoldable pub kept_after : ℕ → ℕ → ℕ → Option ℕ
kept_after len n least = pick (ltb len (n + least)) None (Some (len - n))

-- what stays is no more than there was
abbrev pub Within : ℕ → Option ℕ → Type 0
Within len (Some n) = n ≤ len
Within len None = Unit

-- a step is refused for one of two faults: "label too short to drop from", "label over 4,096"
abbrev pub fault_seen : Fault → Labelled
fault_seen LabelTooShort = too_short
fault_seen f = too_long

-- the label's bytes are the first of the buffer b
abbrev pub relabelled_seen : Result Relabelled Fault → List ℕ → Labelled
relabelled_seen (Err f) b = fault_seen f
relabelled_seen (Ok r) b = labelled (take r.len b)

abbrev pub Short : Result Relabelled Fault → Type 0
Short (Err f) = (f ≡ LabelTooShort) ⊎ (f ≡ LabelTooLong)
Short (Ok r) = r.len ≤ label_limit

-- an answer and the buffer after it tell what the step comes to
pub record Tells (r : Result Relabelled Fault) (b : List ℕ) (x : Labelled) : Type 0 where
  pub same : relabelled_seen r b ≡ x
  pub whole : length b ≡ 4096
  pub short : Short r

-- an answer tells how many bytes stayed of the label (#107)
abbrev pub TellsKept : Result Relabelled Fault → Option ℕ → Type 0
TellsKept (Err f) x = Unit
TellsKept (Ok r) x = x ≡ Some r.kept
