-- The two passes over the items of a file that was opened. Assumes nothing.
use Rattle.std.specs.Prelude.{ℕ, ◌+◌, ◌≤◌, List, length, ◌≡◌, Result as Answer}
use Rattle.format.specs.Sheet.{sheet_version, sheet_of}
use Rattle.format.specs.Reading.{items_of, read_outcome, read_buffer}
use Rattle.format.specs.Refusals.{Result, Good, Refusal as Refused, refused}
use Rattle.header.specs.Head.{saying, Opens}
use Rattle.measure.specs.declared.Passed.{Passed}
use Rattle.read.specs.declared.Course.{Course}
use Rattle.header.specs.declared.Head.{Head}
use Rattle.format.specs.Answers.{answer_of, verdict_of}
use Rattle.format.specs.declared.Done.{Done}
use Rattle.format.specs.declared.Refusal.{Refusal}

-- a header that was opened
abbrev pub Headed : List ℕ → Head → Type 0
Headed file h = Opens file h.version h.place h.extended h.title h.time

-- where the first record goes, and which items a pass goes over
abbrev pub front_of : Head → ℕ
front_of h = 7 + h.title + h.time

abbrev pub course_of : Head → Course
course_of h = record { version = h.version; place = h.place; front = front_of h }

-- the records of a file's items, and why reading them stops
abbrev pub result_of : List ℕ → Head → Result
result_of file h = items_of h.version h.place file

-- their sheet
abbrev pub sheet_of_head : List ℕ → Head → List ℕ
sheet_of_head file h = sheet_of sheet_version (saying h.extended h.title h.time file) (result_of file h).records

-- `judged`: why reading stops, and the bytes and records of the sheet before that
pub record Judges (file : List ℕ) (h : Head) (r : Passed) : Type 0 where
  pub verdict_is : verdict_of r.verdict ≡ (result_of file h).verdict
  pub bytes_are : r.bytes ≡ length (sheet_of_head file h)
  pub records_are : r.records ≡ length (result_of file h).records

-- `fill`: the sheet has so many bytes, and they are there
pub record Fills (file : List ℕ) (h : Head) (bytes : ℕ) (sheet : List ℕ) : Type 0 where
  pub bytes_are : bytes ≡ length (sheet_of_head file h)
  pub fits : bytes ≤ length sheet

-- an answer and the sheet after it are what reading the file gives
pub record ReadsTo (file old : List ℕ) (a : Answer Done Refusal) (sheet : List ℕ) : Type 0 where
  pub answer : answer_of a ≡ read_outcome file (length old)
  pub buffer : sheet ≡ read_buffer file old

-- `settle`: the same where the first pass found nothing to refuse, and its refusal where it did
pub record SettlesTo (file : List ℕ) (total : Passed) (old : List ℕ) (a : Answer Done Refusal) (sheet : List ℕ) : Type 0 where
  pub refusal : (k q : ℕ) → verdict_of total.verdict ≡ Refused k q → (answer_of a ≡ refused k q) × (sheet ≡ old)
  pub good : verdict_of total.verdict ≡ Good → ReadsTo file old a sheet
