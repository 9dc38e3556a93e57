-- Editing, document 01, "Writing v8" (its second part) and "Numbers for no": refusals 14, 15, 12 for the replacement, 13, 16, 11.
-- Assumes nothing.
use Rattle.std.specs.Prelude.{ℕ, ◌+◌, List, [], ◌++◌, Bool, length, take, drop, ltb}
use Rattle.format.specs.Bytes.{pick, same}
use Rattle.format.specs.Header.{Header, Opening, shut, opened, opening_of}
use Rattle.format.specs.State.{State, start, Record}
use Rattle.format.specs.Sheet.{sheet_version, records_of}
use Rattle.format.specs.Refusals.{Result, or_else, Outcome, refused, buffer_of, Good, Refusal, Verdict}
use Rattle.format.specs.Reading.{items_of, Reached}
use Rattle.format.specs.Writing.{v8, codes_all, file_of, written_outcome}
use Rattle.format.specs.Codes.{header_codes}

-- ---- house-written, request #114's word: "These rules would have produced a v8 file when it is no longer than refusal 16 allows, has a
-- sheet and is exactly what they give for that sheet". `opening_of` has judged refusal 16, and a file that begins as ours does is a v8 file

unfoldable pub house_written : List ℕ → Header → List Record → Bool
house_written file h rs = same file (file_of v8 h rs)

-- "The edited sheet is the old file's sheet with the replacement, in order, where the run stood"
unfoldable pub edited : List Record → ℕ → ℕ → List Record → List Record
edited rs first count new = take first rs ++ (new ++ drop (first + count) rs)

-- 14: "file to edit is not what our writer gives for its sheet", at 0
unfoldable pub house_verdict : List ℕ → Header → List Record → Verdict
house_verdict file h rs = pick (house_written file h rs) Good (Refusal 14 0)

-- 15: "first record plus count above the record count", at the record count
unfoldable pub run_verdict : List Record → ℕ → ℕ → Verdict
run_verdict rs first count = pick (ltb (length rs) (first + count)) (Refusal 15 (length rs)) Good

-- what is wrong with what an edit is given: "the reader's refusals except 11, then 14, 15, 12 for the replacement (records only, no
-- header; place within it)"
unfoldable pub edit_verdict : List ℕ → Header → Result → ℕ → ℕ → Result → Verdict
edit_verdict file h old first count new =
    or_else old.verdict (or_else (house_verdict file h old.records) (or_else (run_verdict old.records first count) new.verdict))

-- what is to be written: the edited sheet's records, with that verdict
unfoldable pub edit_result : List ℕ → Header → Result → ℕ → ℕ → Result → Result
edit_result file h old first count new =
    record { records = edited old.records first count new.records; verdict = edit_verdict file h old first count new }

-- then "13, 16, 11", as writing the edited sheet answers
abbrev pub edit_from : Opening → List ℕ → ℕ → ℕ → List ℕ → ℕ → Outcome
edit_from (shut n p) file first count new room = refused n p
edit_from (opened version place h) file first count new room =
    written_outcome v8 h (edit_result file h (items_of version place file) first count (records_of sheet_version new)) room

abbrev pub edit_file : Opening → List ℕ → ℕ → ℕ → List ℕ → List ℕ
edit_file (shut n p) file first count new = []
edit_file (opened version place h) file first count new = file_of v8 h (edited (items_of version place file).records first count (records_of sheet_version new).records)

-- the answer of editing a file, and what the lent buffer then holds
unfoldable pub edit_outcome : List ℕ → ℕ → ℕ → List ℕ → ℕ → Outcome
edit_outcome file first count new room = edit_from (opening_of file) file first count new room

unfoldable pub edit_buffer : List ℕ → ℕ → ℕ → List ℕ → List ℕ → List ℕ
edit_buffer file first count new old = buffer_of (edit_outcome file first count new (length old)) (edit_file (opening_of file) file first count new) old

-- ---- where a record's codes stand

-- "Codes follow the header without gaps, in record order, closing codes last": the place of the first byte of the codes of the record with
-- the number j; past the last record, of the closing codes
unfoldable pub codes_place : Header → List Record → ℕ → ℕ
codes_place h rs j = length (header_codes h ++ codes_all v8 start (take j rs))

-- "What a record or the closing codes find is the state that reading has reached before their first byte"
abbrev pub Finds : Header → List Record → ℕ → State → Type 0
Finds h rs j st = Reached 8 (file_of v8 h rs) (length (header_codes h)) (codes_place h rs j) st
