-- Writing a sheet, document 01, "Writing v8" and "Numbers for no", and #110: the file of a header and records, refusals 12, 13 or 23, 16 and
-- 11. What one version's writer has of its own is a `Writer`: v8 and v7. Assumes nothing.
use Rattle.std.specs.Prelude.{ℕ, ◌+◌, List, [], ◌∷◌, map, ◌++◌, Bool, true, false, length, ltb}
use Rattle.format.specs.Bytes.{pick}
use Rattle.format.specs.Header.{Header, file_limit}
use Rattle.format.specs.State.{State, start, Record}
use Rattle.format.specs.Refusals.{Result, or_else, Outcome, outcome_of, buffer_of, Verdict, Good, Refusal}
use Rattle.format.specs.Sheet.{sheet_version, sheet_of, front_header, sheet_result}
use Rattle.format.specs.Codes.{header_codes, codes_limit, codes, after, closing, unsayable}
use Rattle.format.specs.V7Codes.{v7_header_codes, v7_codes, v7_after, v7_codes_limit, v7_closing, v7_bars, v7_unable, unstyled}

-- ---- a writer

pub record Writer : Type 0 where
  pub version : ℕ
  -- the bytes of a header
  pub head : Header → List ℕ
  -- the codes of a record in a state, and the state that they leave
  pub codes : State → Record → List ℕ
  pub after : State → Record → State
  -- the most bytes that a record's codes take
  pub longest : ℕ
  -- the closing codes
  pub closing : State → List ℕ
  -- which header it cannot write, which record in a state, and the number of that refusal
  pub bars : Header → Bool
  pub unable : State → Record → Bool
  pub number : ℕ

-- v8
abbrev pub v8 : Writer
v8 =
    record {
      version = 8;
      head = header_codes;
      codes = codes;
      after = after;
      longest = codes_limit;
      closing = λ st. closing st.setting.style;
      bars = λ h. false;
      unable = λ st r. unsayable st.setting.style r;
      number = 13;
    }

-- v7 (#110)
abbrev pub v7 : Writer
v7 =
    record {
      version = 7;
      head = v7_header_codes;
      codes = v7_codes;
      after = v7_after;
      longest = v7_codes_limit;
      closing = λ st. v7_closing st.label;
      bars = v7_bars;
      unable = λ st r. v7_unable r;
      number = 23;
    }

-- ---- the file

-- the codes of records that follow one another
unfoldable pub codes_all : Writer → State → List Record → List ℕ
codes_all w st [] = []
codes_all w st (r ∷ rs) = w.codes st r ++ codes_all w (w.after st r) rs

-- the state that they leave
unfoldable pub after_all : Writer → State → List Record → State
after_all w st [] = st
after_all w st (r ∷ rs) = after_all w (w.after st r) rs

-- "Codes follow the header without gaps, in record order, closing codes last"
unfoldable pub encode_all : Writer → State → List Record → List ℕ
encode_all w st rs = codes_all w st rs ++ w.closing (after_all w st rs)

-- the file of a header and records
unfoldable pub file_of : Writer → Header → List Record → List ℕ
file_of w h rs = w.head h ++ encode_all w start rs

-- ---- refusals

-- 13, with the "record in the sheet to be written" as its place, or 23 "at the first record v7 can't carry"; the first of rs has the number n
unfoldable pub records_verdict : Writer → ℕ → State → List Record → Verdict
records_verdict w n st [] = Good
records_verdict w n st (r ∷ rs) = pick (w.unable st r) (Refusal w.number n) (records_verdict w (n + 1) (w.after st r) rs)

-- 16: "file read or written over 16,777,216 bytes"
unfoldable pub size_verdict : ℕ → Verdict
size_verdict bytes = pick (ltb file_limit bytes) (Refusal 16 0) Good

-- "Writing: 12 (first bad record), 13, 16": the records of a result in a file of so many bytes
abbrev pub writing_verdict : Writer → Result → ℕ → Verdict
writing_verdict w x bytes = or_else x.verdict (or_else (records_verdict w 0 start x.records) (size_verdict bytes))

-- then 11: what writing the records of a result as a file of so many bytes into so much room answers
unfoldable pub filed_outcome : Writer → Result → ℕ → ℕ → Outcome
filed_outcome w x bytes room = outcome_of (writing_verdict w x bytes) bytes (length x.records) w.version room

unfoldable pub written_outcome : Writer → Header → Result → ℕ → Outcome
written_outcome w h x room = filed_outcome w x (length (file_of w h x.records)) room

-- ---- the answer of writing a sheet, and what the lent file buffer then holds

-- "extended elevation, with place 0": a header that the writer cannot write is refused behind 12
abbrev pub headed_by : Bool → ℕ → Result → Result
headed_by false number x = x
headed_by true number x = record { records = x.records; verdict = or_else x.verdict (Refusal number 0) }

abbrev pub headed : Writer → Header → Result → Result
headed w h x = headed_by (w.bars h) w.number x

unfoldable pub write_outcome : Writer → List ℕ → ℕ → Outcome
write_outcome w sheet room = written_outcome w (front_header sheet) (headed w (front_header sheet) (sheet_result sheet)) room

unfoldable pub write_buffer : Writer → List ℕ → List ℕ → List ℕ
write_buffer w sheet old = buffer_of (write_outcome w sheet (length old)) (file_of w (front_header sheet) (sheet_result sheet).records) old

-- "A version 1 sheet, once written, reads back as its version 2 twin": the version 2 sheet of the same header and records
unfoldable pub twin : List ℕ → List ℕ
twin sheet = sheet_of sheet_version (front_header sheet) (sheet_result sheet).records

-- what reading gives back of a sheet that was written as v7
unfoldable pub v7_twin : List ℕ → List ℕ
v7_twin sheet = sheet_of sheet_version (front_header sheet) (map unstyled (sheet_result sheet).records)
