-- Where a step reader stands, as the code holds it: a small value, and the label's buffer beside it. Assumes nothing.
use Rattle.format.specs.Refusals.{Good, Refusal as refusal}
use Rattle.format.specs.declared.Fault.{Fault}
use Rattle.std.specs.Prelude.{ℕ, ◌+◌, ◌≤◌, ◌<◌, ◌≡◌, List, length, take, ltb, Result, Ok, Err}
use Rattle.format.specs.Bytes.{pick}
use Rattle.format.specs.State.{start_setting, Next, bad, end, on, made}
use Rattle.format.specs.Label.{label_limit}
use Rattle.format.specs.Sheet.{sheet_version, layout}
use Rattle.format.specs.Fields.{record_of, state_of, record_size}
use Rattle.format.specs.Stepping.{Stand, before, stopped, step_of, step_buffer}
use Rattle.format.specs.Answers.{stepped_of}
use Rattle.format.specs.declared.Setting.{Setting}
use Rattle.format.specs.declared.Fields.{Fields}
use Rattle.format.specs.declared.Stepped.TheVariants.{Record as RecordStep, Nothing, End as EndStep}
use Rattle.wire.specs.Laid.{laid_if}
use Rattle.item.specs.Seen.{Short}
use Rattle.item.specs.declared.Step.{Step as ItemStep}
use Rattle.item.specs.declared.Step.TheVariants.{End, On, Made}
use Rattle.step.specs.declared.Phase.{Phase}
use Rattle.step.specs.declared.Phase.TheVariants.{Going, Ended, Refused}
use Rattle.step.specs.declared.Stand.{Stand as Held}
use Rattle.step.specs.declared.Taken.{Taken}

-- a phase, with the stand before the next item
abbrev pub phase_seen : Phase → Stand → Stand
phase_seen Going here = here
phase_seen Ended here = stopped Good
phase_seen (Refused r) here = stopped (refusal r.number r.place)

-- a stand, with what the label's buffer holds
abbrev pub stand_seen : Held → List ℕ → Stand
stand_seen h label = phase_seen h.phase (before h.version h.place (state_of h.setting (take h.len label)))

-- the lesser of two numbers
unfoldable pub lesser : ℕ → ℕ → ℕ
lesser a b = pick (ltb b a) b a

-- no slice is longer, so a place in one and the bytes behind it make no sum that wraps
abbrev pub slice_limit : ℕ
slice_limit = 9223372036854775807

-- ---- the functions' contracts, each by its function's name

-- `fresh`: the stand at the start of a file
pub record Fresh (h : Held) (phase : Phase) (version place : ℕ) : Type 0 where
  pub phase_is : h.phase ≡ phase
  pub version_is : h.version ≡ version
  pub place_is : h.place ≡ place
  pub label_empty : h.len ≡ 0
  pub setting_is : h.setting ≡ start_setting

-- `open_at`: the label is empty, so its buffer holds whatever it holds
pub record Opens (h : Held) (x : Stand) : Type 0 where
  pub same : (label : List ℕ) → stand_seen h label ≡ x

-- `end_step`: the end item, where `left` bytes are left: 10, or the end
pub record EndStepped (left : ℕ) (h : Held) (t : Taken) : Type 0 where
  pub more : 1 < left → (t.answer ≡ Err (record { number = 10; place = h.place + 1 })) × (t.stand.phase ≡ Refused (record { number = 10; place = h.place + 1 }))
  pub none : left ≤ 1 → (t.answer ≡ Ok EndStep) × (t.stand.phase ≡ Ended)

-- `behind`: where a reader stands behind an item of n bytes
abbrev pub behind_item : Held → ℕ → ℕ → Setting → Held
behind_item h n len setting = record { phase = Going; version = h.version; place = h.place + n; len = len; setting = setting }

-- `room_for`: whether so much room is enough for a record of so many bytes, or how many it takes
unfoldable pub room_of : ℕ → ℕ → Result Unit ℕ
room_of size room = pick (ltb room size) (Err size) (Ok tt)

-- for the record that an item makes, if it makes one
abbrev pub room_for : Next → ℕ → Result Unit ℕ
room_for (bad k) room = Ok tt
room_for end room = Ok tt
room_for (on n st) room = Ok tt
room_for (made n r st) room = room_of (length (layout sheet_version r)) room

-- the same of what the code says of an item
abbrev pub step_room : Result ItemStep Fault → ℕ → Result Unit ℕ
step_room (Err e) room = Ok tt
step_room (Ok End) room = Ok tt
step_room (Ok (On n m st)) room = Ok tt
step_room (Ok (Made n m st f kept)) room = room_of (record_size f m) room

-- `peek`: the same room is enough
pub record Peeks (r : Result ItemStep Fault) (x : Next) : Type 0 where
  pub same : (room : ℕ) → step_room r room ≡ room_for x room
  pub short : Short r

-- `record_step`: the record at the front of the buffer, with how many bytes of the label were kept
pub record Recorded (next : Held) (label : List ℕ) (f : Fields) (kept : ℕ) (old : List ℕ) (t : Taken) (new : List ℕ) : Type 0 where
  pub answer : t.answer ≡ Ok (RecordStep (record_size f next.len) kept)
  pub stand : t.stand ≡ next
  pub buffer : new ≡ laid_if old 0 (layout sheet_version (record_of f (take next.len label)))

-- `after_item`: an item that came to this ends within the file, and its label fits
abbrev pub Within : Held → ItemStep → Type 0
Within h End = h.place ≤ slice_limit
Within h (On n m st) = h.place + n ≤ slice_limit
Within h (Made n m st f kept) = (h.place + n ≤ slice_limit) × (m ≤ label_limit)

abbrev pub After : Held → ItemStep → ℕ → List ℕ → List ℕ → Taken → List ℕ → Type 0
After h End left label old t new = EndStepped left h t × (new ≡ old)
After h (On n m st) left label old t new = (t.answer ≡ Ok Nothing) × (t.stand ≡ behind_item h n m st) × (new ≡ old)
After h (Made n m st f kept) left label old t new = Recorded (behind_item h n m st) label f kept old t new

-- `step`: an answer, where the reader then stands and the buffer after it are one step from a stand
pub record Steps (h : Held) (label file old : List ℕ) (t : Taken) (label' new : List ℕ) : Type 0 where
  pub answer : stepped_of t.answer ≡ (step_of (stand_seen h label) file (length old)).answer
  pub stand : stand_seen t.stand label' ≡ (step_of (stand_seen h label) file (length old)).stand
  pub buffer : new ≡ step_buffer (stand_seen h label) file old
