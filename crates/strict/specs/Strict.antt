-- Strict reading, request #108: "A section whose full name no earlier station has is refused, and so is a station whose name came earlier
-- with other coordinates. The same name with the same coordinates is fine." Assumes nothing.
use Rattle.std.specs.Prelude.{ℕ, ◌+◌, List, [], ◌∷◌, Bool, ◌&&◌, length, drop, eqb, ltb}
use Rattle.format.specs.Bytes.{pick, same}
use Rattle.format.specs.Header.{Opening, shut, opened, opening_of}
use Rattle.format.specs.Iterate.{iter}
use Rattle.format.specs.State.{State, start, Record, leg, station, section, error, Next, bad, end, on, made}
use Rattle.format.specs.Sheet.{sheet_version, sheet_of}
use Rattle.format.specs.Refusals.{Result, stop, also, Outcome, refused, outcome_of, buffer_of, Refusal}
use Rattle.format.specs.Reading.{next, ended, items_of}
use Rattle.format.specs.declared.Point.{Point}

-- ---- "a search through all earlier station records"

-- where the station of a name stands, if there is one
pub data Searched : Type 0 where
  found : Point → Searched
  unknown : Searched

-- through the records made so far, the last one first
unfoldable pub searched : List Record → List ℕ → Searched
searched [] name = unknown
searched (station g l ∷ earlier) name = pick (same l name) (found g.place) (searched earlier name)
searched (leg g l ∷ earlier) name = searched earlier name
searched (section g l ∷ earlier) name = searched earlier name
searched (error t ∷ earlier) name = searched earlier name

-- ---- "Each different name takes its own bytes and 32 more of that room"

abbrev pub name_room : List ℕ → ℕ
name_room name = length name + 32

-- a name that came earlier takes no more
abbrev pub new_room : Searched → List ℕ → ℕ
new_room (found p) name = 0
new_room unknown name = name_room name

-- what the different names take
unfoldable pub taken : List Record → ℕ
taken [] = 0
taken (station g l ∷ earlier) = taken earlier + new_room (searched earlier l) l
taken (leg g l ∷ earlier) = taken earlier
taken (section g l ∷ earlier) = taken earlier
taken (error t ∷ earlier) = taken earlier

-- ---- the judgement of a record: "18 unknown station and 19 moved station", "22 index full, .. after 19 in the same item"

pub data Judgement : Type 0 where
  fine : Judgement
  faulty : ℕ → Judgement

unfoldable pub same_place : Point → Point → Bool
same_place p q = eqb p.x q.x && (eqb p.y q.y && eqb p.z q.z)

abbrev pub judge_section : Searched → Judgement
judge_section (found p) = fine
judge_section unknown = faulty 18

-- 22: "given exactly when the next different name doesn't fit what is left"
abbrev pub judge_station : Searched → Point → ℕ → ℕ → Judgement
judge_station (found p) place needed room = pick (same_place p place) fine (faulty 19)
judge_station unknown place needed room = pick (ltb room needed) (faulty 22) fine

-- a record after those made so far, with so much room for names
abbrev pub judged : ℕ → List Record → Record → Judgement
judged room earlier (station g l) = judge_station (searched earlier l) g.place (taken earlier + name_room l) room
judged room earlier (section g l) = judge_section (searched earlier l)
judged room earlier (leg g l) = fine
judged room earlier (error t) = fine

-- ---- the items of a file, in order, "in an item after 8": an item that reading refuses makes no record

-- where strict reading stands: the state, and the records made so far, the last one first
pub record Stand : Type 0 where
  pub state : State
  pub earlier : List Record

-- a refusal has the item's place
abbrev pub unless : Judgement → ℕ → Result → Result
unless fine at x = x
unless (faulty k) at x = stop (Refusal k at)

abbrev pub after_strictly : Next → ℕ → ℕ → List ℕ → List Record → (ℕ → Stand → Result) → Result
after_strictly (bad k) room at s earlier go = stop (Refusal k at)
after_strictly end room at s earlier go = stop (ended at s)
after_strictly (on n st) room at s earlier go = go n (record { state = st; earlier = earlier })
after_strictly (made n r st) room at s earlier go = unless (judged room earlier r) at (also r (go n (record { state = st; earlier = r ∷ earlier })))

unfoldable pub strict_step : ℕ → ℕ → ℕ → List ℕ → Stand → (ℕ → Stand → Result) → Result
strict_step version room at s x go = after_strictly (next version s x.state) room at s x.earlier go

-- the records that the items of s make, with `at` bytes before s, and why strict reading stops: the law `strict_eq` is its equation
unfoldable pub strict_run : ℕ → ℕ → ℕ → List ℕ → Stand → Result
strict_run version room at s x = iter (strict_step version room) (λ p. stop (Refusal 5 p)) at s x

unfoldable pub strict_items : ℕ → ℕ → ℕ → List ℕ → Result
strict_items version room place file = strict_run version room place (drop place file) (record { state = start; earlier = [] })

-- ---- "room for all different ones always suffices"

-- what the names take once these records have come too
unfoldable pub taken_with : List Record → List Record → ℕ
taken_with earlier [] = taken earlier
taken_with earlier (r ∷ coming) = taken_with (r ∷ earlier) coming

-- room for all different names of the stations that reading the file makes
abbrev pub room_from : Opening → List ℕ → ℕ
room_from (shut n p) file = 0
room_from (opened version place h) file = taken_with [] (items_of version place file).records

unfoldable pub room_for : List ℕ → ℕ
room_for file = room_from (opening_of file) file

-- ---- the answer: `index` is the length of the room for names, `room` that of the sheet

abbrev pub strict_from : Opening → List ℕ → ℕ → ℕ → Outcome
strict_from (shut n p) file index room = refused n p
strict_from (opened version place h) file index room =
    let x = strict_items version index place file in
    outcome_of x.verdict (length (sheet_of sheet_version h x.records)) (length x.records) version room

abbrev pub strict_sheet : Opening → List ℕ → ℕ → List ℕ
strict_sheet (shut n p) file index = []
strict_sheet (opened version place h) file index = sheet_of sheet_version h (strict_items version index place file).records

-- the answer of reading a file strictly
unfoldable pub strict_outcome : List ℕ → ℕ → ℕ → Outcome
strict_outcome file index room = strict_from (opening_of file) file index room

-- what a lent sheet then holds
unfoldable pub strict_buffer : List ℕ → ℕ → List ℕ → List ℕ
strict_buffer file index old = buffer_of (strict_outcome file index (length old)) (strict_sheet (opening_of file) file index) old
