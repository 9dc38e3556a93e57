-- A file listed by steps: what stepping through it comes to, and the text for that. Assumes nothing.
use Rattle.std.specs.Prelude.{ℕ, ◌+◌, ◌≤◌, ◌≡◌, List, length, take, drop, ltb, Result as Answer, Ok, Err}
use Rattle.format.specs.Bytes.{pick}
use Rattle.format.specs.Sheet.{sheet_version, layout_all}
use Rattle.format.specs.Refusals.{Result, stop, Verdict, Good, Refusal}
use Rattle.format.specs.Reading.{run}
use Rattle.format.specs.Stepping.{Stand, before, stopped, open_stand}
use Rattle.format.specs.declared.Refusal.{Refusal as Refused}
use Rattle.wire.specs.Laid.{laid}
use Rattle.listing.specs.Lines.{refusal_line, sheet_listing}

-- the records that are still to come from a stand, and why reading them stops
abbrev pub left_of : Stand → List ℕ → Result
left_of (before version place st) file = run version place (drop place file) st
left_of (stopped v) file = stop v

-- stepping ends as reading does, and the records' bytes up to there stand from `front` on, where they all fit
pub record Gathered (file old : List ℕ) (front bytes : ℕ) (verdict : Verdict) (sheet : List ℕ) : Type 0 where
  pub verdict_is : (left_of (open_stand file) file).verdict ≡ verdict
  pub bytes_are : bytes ≡ front + length (layout_all sheet_version (left_of (open_stand file) file).records)
  pub laid_in : bytes ≤ length old → sheet ≡ laid old front (layout_all sheet_version (left_of (open_stand file) file).records)

-- `gather`: after a refusal too, whose answer does not say how many bytes that were
abbrev pub Gathers : List ℕ → List ℕ → ℕ → Answer ℕ Refused → List ℕ → Type 0
Gathers file old front (Ok bytes) sheet = Gathered file old front bytes Good sheet
Gathers file old front (Err r) sheet =
    Gathered file old front (front + length (layout_all sheet_version (left_of (open_stand file) file).records)) (Refusal r.number r.place) sheet

-- `stop_text`: the sheet of so many bytes, or 11 with the length needed
unfoldable pub listed_text : ℕ → ℕ → List ℕ → List ℕ
listed_text bytes version sheet = pick (ltb (length sheet) bytes) (refusal_line 11 bytes) (sheet_listing version (take bytes sheet))

-- after what ended stepping
abbrev pub stop_text : Answer ℕ Refused → ℕ → List ℕ → List ℕ
stop_text (Ok bytes) version sheet = listed_text bytes version sheet
stop_text (Err r) version sheet = refusal_line r.number r.place
