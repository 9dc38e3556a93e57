-- Refusals and their order, document 01, "Numbers for no": why reading or writing stopped, what it made before that, the answer and what a
-- lent buffer then holds. Assumes nothing.
use Rattle.std.specs.Prelude.{ℕ, List, [], ◌∷◌, Bool, ◌&&◌, ◌||◌, eqb, ltb, leb}
use Rattle.format.specs.Bytes.{pick, over}
use Rattle.format.specs.State.{Record}

-- none, or a refusal's number and place
pub data Verdict : Type 0 where
  Good : Verdict
  Refusal : ℕ → ℕ → Verdict

-- the first refusal of two
abbrev pub or_else : Verdict → Verdict → Verdict
or_else Good v = v
or_else (Refusal n p) v = Refusal n p

-- the numbers in "Reading: 16, 1, 2, 3, the v8 byte, then items in order; in an item 4, 5, 6, 7, 9, 8; then 10, then 11"
abbrev pub reader_number : ℕ → Bool
reader_number n = leb 1 n && (leb n 11 || eqb n 16)

-- ---- the records made before a reading stopped, and why it stopped

pub record Result : Type 0 where
  pub records : List Record
  pub verdict : Verdict

abbrev pub stop : Verdict → Result
stop v = record { records = []; verdict = v }

abbrev pub also : Record → Result → Result
also r x = record { records = r ∷ x.records; verdict = x.verdict }

-- ---- the answer

-- bytes, records and file version; or a refusal's number and place
pub data Outcome : Type 0 where
  accepted : ℕ → ℕ → ℕ → Outcome
  refused : ℕ → ℕ → Outcome

-- 11 comes last, with the length needed
abbrev pub outcome_of : Verdict → ℕ → ℕ → ℕ → ℕ → Outcome
outcome_of (Refusal n p) bytes records version room = refused n p
outcome_of Good bytes records version room = pick (ltb room bytes) (refused 11 bytes) (accepted bytes records version)

-- "A refusal leaves lent memory untouched. Success writes from the front, leaves the rest"; "lent" is document 01's word for a buffer
-- that the caller gives for the time of a call
abbrev pub buffer_of : Outcome → List ℕ → List ℕ → List ℕ
buffer_of (accepted b n v) new old = over new old
buffer_of (refused n p) new old = old
