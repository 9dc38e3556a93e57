-- Two edits of one file, document 02, #114, "Two people, one file": what is claimed. Assumes nothing.
use Rattle.std.specs.Prelude.{ℕ, ◌+◌, ◌-◌, ◌≤◌, ◌<◌, ◌≡◌, List, length, take}
use Rattle.format.specs.Sheet.{sheet_version, records_of}
use Rattle.format.specs.Refusals.{Outcome, accepted}
use Rattle.format.specs.Editing.{edit_outcome, edit_buffer}

-- "Two draughtsmen correct different stretches of one house-written file": the first record and the count of a run, and the bytes of the
-- records that are to stand in its place
pub record Correction : Type 0 where
  pub first : ℕ
  pub count : ℕ
  pub new : List ℕ

-- ---- the runs

-- the record with the number j is of the run
abbrev pub InRun : Correction → ℕ → Type 0
InRun c j = (c.first ≤ j) × (j < c.first + c.count)

-- "two runs that share no record"
abbrev pub ShareNone : Correction → Correction → Type 0
ShareNone a b = (j : ℕ) → InRun a j → InRun b j → ⊥

-- "the later one at its shifted number": the records that the earlier correction takes out before it are gone, those that it puts in have come
unfoldable pub shifted_number : Correction → Correction → ℕ
shifted_number earlier later = later.first - earlier.count + length (records_of sheet_version earlier.new).records

abbrev pub shifted : Correction → Correction → Correction
shifted earlier later = record { first = shifted_number earlier later; count = later.count; new = later.new }

-- ---- the edits

-- what a correction of a file answers, with so much room, and what the lent buffer then holds
abbrev pub correction_outcome : List ℕ → Correction → ℕ → Outcome
correction_outcome file c room = edit_outcome file c.first c.count c.new room

abbrev pub correction_buffer : List ℕ → Correction → List ℕ → List ℕ
correction_buffer file c old = edit_buffer file c.first c.count c.new old

-- a correction that is accepted in some lent buffer, and the file that it leaves at the buffer's front. Only a house-written file is
-- corrected: any other gets 14
pub record Corrects (file : List ℕ) (c : Correction) (corrected : List ℕ) : Type 0 where
  pub old : List ℕ
  pub bytes : ℕ
  pub records : ℕ
  pub version : ℕ
  pub accept : correction_outcome file c (length old) ≡ accepted bytes records version
  pub front : corrected ≡ take bytes (correction_buffer file c old)

-- "applying the earlier one first and the later one at its shifted number gives the same file as the later one first. Premise: both edits are
-- accepted in both orders, buffers being large enough"
abbrev pub OrderFree : List ℕ → Correction → Correction → Type 0
OrderFree file earlier later =
    (one other both both' : List ℕ)
    → Corrects file earlier one
    → Corrects one (shifted earlier later) both
    → Corrects file later other
    → Corrects other earlier both'
    → both ≡ both'
