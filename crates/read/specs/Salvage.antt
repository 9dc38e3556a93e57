-- Salvaging a file, request #111: "the sheet of all records made by items before the first refused one, with a report". Assumes nothing.
use Rattle.format.specs.Refusals.{Verdict, Good, Refusal as Refused}
use Rattle.std.specs.Prelude.{ℕ, ◌-◌, ◌≡◌, List, length, ltb, Result, Ok, Err}
use Rattle.format.specs.Bytes.{pick, over}
use Rattle.format.specs.Header.{Opening, shut, opened, opening_of}
use Rattle.format.specs.Sheet.{sheet_version, sheet_of}
use Rattle.format.specs.Reading.{items_of, sheet_from}
use Rattle.format.specs.declared.Refusal.{Refusal}
use Rattle.read.specs.declared.Saved.{Saved}

-- the sheet's bytes, "records kept", the version; "the refusal and its place", and the "file bytes from that place on"; or a refusal
pub data SalvageOutcome : Type 0 where
  saved : (bytes records version number place left : ℕ) → SalvageOutcome
  unsaved : (number place : ℕ) → SalvageOutcome

-- "5 to 10 and 4 at an item become the report"; "A whole file gives its ordinary sheet, refusal 0 and the file length as place"
abbrev pub report_number : Verdict → ℕ
report_number Good = 0
report_number (Refused n p) = n

abbrev pub report_place : Verdict → ℕ → ℕ
report_place Good size = size
report_place (Refused n p) size = p

abbrev pub saved_by : Verdict → ℕ → ℕ → ℕ → ℕ → SalvageOutcome
saved_by v bytes records version size = saved bytes records version (report_number v) (report_place v size) (size - report_place v size)

-- "Refusals: 16, 1, 2, 3, and 4 for the v8 byte as in reading; 11 last", with the length needed
abbrev pub salvage_from : Opening → List ℕ → ℕ → SalvageOutcome
salvage_from (shut n p) file room = unsaved n p
salvage_from (opened version place h) file room =
    let x = items_of version place file in
    let bytes = length (sheet_of sheet_version h x.records) in
    pick (ltb room bytes) (unsaved 11 bytes) (saved_by x.verdict bytes (length x.records) version (length file))

-- the answer of salvaging a file into a sheet with room for so many bytes
unfoldable pub salvage_outcome : List ℕ → ℕ → SalvageOutcome
salvage_outcome file room = salvage_from (opening_of file) file room

-- what a lent sheet then holds
abbrev pub salvage_leaves : SalvageOutcome → List ℕ → List ℕ → List ℕ
salvage_leaves (saved b n v k p l) new old = over new old
salvage_leaves (unsaved n p) new old = old

unfoldable pub salvage_buffer : List ℕ → List ℕ → List ℕ
salvage_buffer file old = salvage_leaves (salvage_outcome file (length old)) (sheet_from (opening_of file) file) old

-- what the code answers
abbrev pub salvaged_of : Result Saved Refusal → SalvageOutcome
salvaged_of (Ok s) = saved s.bytes s.records s.version s.number s.place s.left
salvaged_of (Err r) = unsaved r.number r.place

-- an answer and the sheet after it are what salvaging the file gives
pub record SalvagesTo (file old : List ℕ) (a : Result Saved Refusal) (sheet : List ℕ) : Type 0 where
  pub answer : salvaged_of a ≡ salvage_outcome file (length old)
  pub buffer : sheet ≡ salvage_buffer file old
