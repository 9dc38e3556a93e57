-- Conversion, document 01, "Numbers for no", and #113: the v8 file of what a file of any version says, and the refusals. Assumes nothing.
use Rattle.std.specs.Prelude.{ℕ, List, [], length}
use Rattle.format.specs.Header.{Opening, shut, opened, opening_of}
use Rattle.format.specs.Refusals.{Outcome, accepted, refused, outcome_of, buffer_of}
use Rattle.format.specs.Reading.{items_of, read_outcome}
use Rattle.format.specs.Writing.{v8, file_of, size_verdict}

-- ---- "Conversion reads to a lent sheet, then writes": the v8 file of the header and records that reading gives

abbrev pub converted_from : Opening → List ℕ → List ℕ
converted_from (shut n p) file = []
converted_from (opened version place h) file = file_of v8 h (items_of version place file).records

unfoldable pub converted_file : List ℕ → List ℕ
converted_file file = converted_from (opening_of file) file

-- ---- "conversion now gives the reader's, then 16 and 11"

-- after such an answer of reading, for a new file of so many bytes
abbrev pub converted_outcome : Outcome → ℕ → ℕ → Outcome
converted_outcome (accepted b n v) bytes room = outcome_of (size_verdict bytes) bytes n v8.version room
converted_outcome (refused n p) bytes room = refused n p

-- the answer, with so much room for the sheet and for the new file; the lent sheet then holds `read_buffer file sheet`
unfoldable pub convert_outcome : List ℕ → ℕ → ℕ → Outcome
convert_outcome file sheetRoom room = converted_outcome (read_outcome file sheetRoom) (length (converted_file file)) room

-- what the lent file buffer then holds: "after a writer's refusal the sheet stands and the file buffer is untouched"
unfoldable pub convert_buffer : List ℕ → ℕ → List ℕ → List ℕ
convert_buffer file sheetRoom old = buffer_of (convert_outcome file sheetRoom (length old)) (converted_file file) old
