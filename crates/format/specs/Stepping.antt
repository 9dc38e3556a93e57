-- Stepping, document 01, "Stepping": opening, and one step. Assumes nothing.
use Rattle.format.specs.Refusals.{Good, Refusal, Verdict}
use Rattle.std.specs.Prelude.{ℕ, zero, suc, ◌+◌, List, [], ◌++◌, length, drop, ltb}
use Rattle.format.specs.Bytes.{pick, over}
use Rattle.format.specs.Header.{Opening, shut, opened, opening_of}
use Rattle.format.specs.State.{State, start, Record, Next, bad, end, on, made}
use Rattle.format.specs.Sheet.{sheet_version, layout}
use Rattle.format.specs.Reading.{next, ended}
use Rattle.format.specs.Items.{item_of}
use Rattle.format.specs.Outline.{drop_leaves}

-- where a step reader stands: before the item at a place, in a version and a state; or after the end (`Good`) or a refusal, for good
pub data Stand : Type 0 where
  before : ℕ → ℕ → State → Stand
  stopped : Verdict → Stand

-- "A refused opening gives a reader whose every step answers that refusal"
abbrev pub stand_of : Opening → Stand
stand_of (shut n p) = stopped (Refusal n p)
stand_of (opened version place h) = before version place start

unfoldable pub open_stand : List ℕ → Stand
open_stand file = stand_of (opening_of file)

-- what a step answers: a record of so many bytes and how many bytes of the label were kept (#107), no record, the end, or a refusal
pub data StepOutcome : Type 0 where
  wrote : ℕ → ℕ → StepOutcome
  nothing : StepOutcome
  ends : StepOutcome
  refuses : ℕ → ℕ → StepOutcome

-- a step's answer, where the reader then stands, and the bytes written to the front of the lent buffer
pub record Step : Type 0 where
  pub answer : StepOutcome
  pub stand : Stand
  pub bytes : List ℕ

abbrev pub stop_answer : Verdict → StepOutcome
stop_answer Good = ends
stop_answer (Refusal n p) = refuses n p

-- "After the end or another refusal every step says so again, changing nothing"
abbrev pub halted : Verdict → Step
halted v = record { answer = stop_answer v; stand = stopped v; bytes = [] }

-- "On 11 it doesn't advance": here is where the reader stood
unfoldable pub recorded : Stand → Stand → Record → ℕ → ℕ → Step
recorded here there r kept room =
    pick (ltb room (length (layout sheet_version r))) (record { answer = refuses 11 (length (layout sheet_version r)); stand = here; bytes = [] })
    (record { answer = wrote (length (layout sheet_version r)) kept; stand = there; bytes = layout sheet_version r })

-- "Each step uses exactly one item"; "An end item with bytes after it answers 10"
abbrev pub step_next : Next → ℕ → ℕ → State → List ℕ → ℕ → Step
step_next (bad k) version place st s room = halted (Refusal k place)
step_next end version place st s room = halted (ended place s)
step_next (on n st') version place st s room = record { answer = nothing; stand = before version (place + n) st'; bytes = [] }
step_next (made n r st') version place st s room =
    recorded (before version place st) (before version (place + n) st') r (drop_leaves st.label (item_of version s)) room

-- one step, with a buffer of so much room
abbrev pub step_of : Stand → List ℕ → ℕ → Step
step_of (stopped v) file room = halted v
step_of (before version place st) file room = step_next (next version (drop place file) st) version place st (drop place file) room

-- "The record is written from the front, length bytes first; the rest stays"
unfoldable pub step_buffer : Stand → List ℕ → List ℕ → List ℕ
step_buffer stand file old = over (step_of stand file (length old)).bytes old

-- ---- a reader stepped to its stop

-- why stepping is over: the steps ran out, as they do where a reader idles; or it stopped, at the end (`Good`) or with a refusal
pub data Halt : Type 0 where
  ran_out : Halt
  stops : Verdict → Halt

-- the records' bytes in order, and why it is over
pub record Gathered : Type 0 where
  pub bytes : List ℕ
  pub halt : Halt

abbrev pub after_step : StepOutcome → List ℕ → Gathered → Gathered
after_step (wrote n kept) record_bytes rest = record { bytes = record_bytes ++ rest.bytes; halt = rest.halt }
after_step nothing record_bytes rest = rest
after_step ends record_bytes rest = record { bytes = []; halt = stops Good }
after_step (refuses n p) record_bytes rest = record { bytes = []; halt = stops (Refusal n p) }

-- at most so many steps, each into a buffer of so much room
unfoldable pub gathered : ℕ → Stand → List ℕ → ℕ → Gathered
gathered zero stand file room = record { bytes = []; halt = ran_out }
gathered (suc n) stand file room =
    let s = step_of stand file room in
    after_step s.answer s.bytes (gathered n s.stand file room)
