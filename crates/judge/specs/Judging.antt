-- A file judged: its records read, whether it is house-written, and where a run of its records stands. Assumes nothing.
use Rattle.std.specs.Prelude.{ℕ, ◌+◌, ◌≤◌, ◌<◌, ◌≡◌, true, false, List, length, take, Result as Answered, Ok, Err}
use Rattle.format.specs.Header.{Header}
use Rattle.format.specs.State.{start, Record}
use Rattle.format.specs.Refusals.{Result, Good, Refusal}
use Rattle.format.specs.Reading.{items_of}
use Rattle.format.specs.Writing.{v8, after_all}
use Rattle.format.specs.Codes.{header_codes}
use Rattle.format.specs.Editing.{house_written, codes_place}
use Rattle.header.specs.Head.{saying, Opens}
use Rattle.scan.specs.Places.{state_at, Inside}
use Rattle.scan.specs.declared.Place.{Place}
use Rattle.header.specs.declared.Head.{Head}
use Rattle.format.specs.declared.Refusal.{Refusal as Refused}
use Rattle.judge.specs.declared.Run.{Run}
use Rattle.judge.specs.declared.Judged.{Judged}
use Rattle.judge.specs.declared.Judged.TheVariants.{Foreign, Short, Cut}
use Rattle.judge.specs.Walking.{Walks}

-- the file's header
abbrev pub old_header : List ℕ → Head → Header
old_header file old = saying old.extended old.title old.time file

-- it is whole
abbrev pub OldOpens : List ℕ → Head → Type 0
OldOpens file old = Opens file old.version old.place old.extended old.title old.time

-- what the file comes to
abbrev pub old_result : List ℕ → Head → Result
old_result file old = items_of old.version old.place file

-- the header is as the writing rules give it, and so are the codes of the records up to a place
pub record Begins (file : List ℕ) (old : Head) (j : ℕ) (p : Place) (b : List ℕ) : Type 0 where
  pub opens : OldOpens file old
  pub version_is : old.version ≡ 8
  pub header_is : take old.place file ≡ header_codes (old_header file old)
  pub walks : Walks file old.place start j p b

-- reading stands before the record with the number j of the file of these records; b holds the label
pub record Stands (file : List ℕ) (h : Header) (rs : List Record) (j : ℕ) (p : Place) (b : List ℕ) : Type 0 where
  pub inside : Inside file p b
  pub place_is : p.at ≡ codes_place h rs j
  pub state : state_at p b ≡ after_all v8 start (take j rs)

-- a file that can be read and is house-written
pub record House (file : List ℕ) (old : Head) : Type 0 where
  pub readable : (old_result file old).verdict ≡ Good
  pub house : house_written file (old_header file old) (old_result file old).records ≡ true

-- a run of its records
pub record Cuts (file : List ℕ) (old : Head) (run : Run) (front : Place) (b : List ℕ) (back : Place) (b' : List ℕ) (rest : ℕ) : Type 0 where
  pub house : House file old
  pub all : run.first + (run.count + rest) ≡ length (old_result file old).records
  pub few : length (old_result file old).records ≤ length file
  pub before : Stands file (old_header file old) (old_result file old).records run.first front b
  pub behind : Stands file (old_header file old) (old_result file old).records (run.first + run.count) back b'

-- the reader's refusal; a file that can be read and is not house-written; a house-written one that ends before the run does; or where it
-- is cut
abbrev pub Judges : List ℕ → Head → Run → Answered Judged Refused → List ℕ → List ℕ → Type 0
Judges file old run (Err r) b b' = (old_result file old).verdict ≡ Refusal r.number r.place
Judges file old run (Ok Foreign) b b' = ((old_result file old).verdict ≡ Good) × (house_written file (old_header file old) (old_result file old).records ≡ false)
Judges file old run (Ok (Short n)) b b' = House file old × (n ≡ length (old_result file old).records) × (n < run.first + run.count)
Judges file old run (Ok (Cut front back rest)) b b' = Cuts file old run front b back b' rest

-- of a file that is not house-written
abbrev pub Fails : List ℕ → Head → Answered Judged Refused → Type 0
Fails file old (Err r) = (old_result file old).verdict ≡ Refusal r.number r.place
Fails file old (Ok Foreign) = (old_result file old).verdict ≡ Good
Fails file old (Ok (Short n)) = ⊥
Fails file old (Ok (Cut front back rest)) = ⊥

-- the same, whatever the label's buffer before the run
abbrev pub JudgesRest : List ℕ → Head → Run → Place → Answered Judged Refused → List ℕ → Type 0
JudgesRest file old run front r b' = (b : List ℕ) → Begins file old run.first front b → Judges file old run r b b'
