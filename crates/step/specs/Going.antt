-- On to the next record: steps until one answers a record, the end or a refusal. Assumes nothing.
use Rattle.std.specs.Prelude.{ℕ, zero, suc, ◌≡◌, List, length}
use Rattle.format.specs.Bytes.{over}
use Rattle.format.specs.Stepping.{Stand, StepOutcome, wrote, nothing, ends, refuses, Step, step_of}
use Rattle.format.specs.Answers.{stepped_of}
use Rattle.step.specs.Standing.{stand_seen}
use Rattle.step.specs.declared.Stand.{Stand as Held}
use Rattle.step.specs.declared.Taken.{Taken}

-- after a step that answered this: no record, and the rest; or the step itself
abbrev pub or_on : StepOutcome → Step → Step → Step
or_on (wrote n kept) this rest = this
or_on nothing this rest = rest
or_on ends this rest = this
or_on (refuses n p) this rest = this

-- at most so many steps, and one more
unfoldable pub go_on : ℕ → Stand → List ℕ → ℕ → Step
go_on zero stand file room = step_of stand file room
go_on (suc n) stand file room = let s = step_of stand file room in or_on s.answer s (go_on n s.stand file room)

-- each item has a byte at least, so a file has no more items than bytes (`GoingLaws.next_answers`: the answer is never `nothing`)
unfoldable pub next_record : Stand → List ℕ → ℕ → Step
next_record stand file room = go_on (length file) stand file room

-- "The record is written from the front, length bytes first; the rest stays"
unfoldable pub next_buffer : Stand → List ℕ → List ℕ → List ℕ
next_buffer stand file old = over (next_record stand file (length old)).bytes old

-- `next_at`: an answer, where the reader then stands and the buffer after it are those of going on from a stand
pub record Goes (h : Held) (label file old : List ℕ) (t : Taken) (label' new : List ℕ) : Type 0 where
  pub answer : stepped_of t.answer ≡ (next_record (stand_seen h label) file (length old)).answer
  pub stand : stand_seen t.stand label' ≡ (next_record (stand_seen h label) file (length old)).stand
  pub buffer : new ≡ next_buffer (stand_seen h label) file old
