-- Records written one after another from a pen's state. Assumes nothing.
use Rattle.format.specs.Refusals.{Good}
use Rattle.std.specs.Prelude.{ℕ, ◌+◌, ◌≤◌, ◌<◌, ◌≡◌, List, [], ◌∷◌, length, take, drop}
use Rattle.format.specs.Label.{label_limit}
use Rattle.format.specs.State.{State, Record}
use Rattle.format.specs.Sheet.{sheet_version, records_of}
use Rattle.format.specs.Fields.{state_of}
use Rattle.format.specs.Codes.{codes_limit, after}
use Rattle.format.specs.Writing.{v8}
use Rattle.format.specs.Header.{file_limit}
use Rattle.scan.specs.Places.{state_at}
use Rattle.scan.specs.declared.Place.{Place}
use Rattle.judge.specs.Walking.{rest_of, rules_from, Ready}
use Rattle.counts.specs.Tallies.{Adds}
use Rattle.counts.specs.declared.Tally.{Tally}
use Rattle.edit.specs.declared.Pen.{Pen}
use Rattle.edit.specs.declared.Went.{Went}

-- ---- one record

-- what the next record finds; b holds the label
abbrev pub pen_state : Pen → List ℕ → State
pen_state p b = state_of p.setting (take p.len b)

pub record PenFits (p : Pen) (b : List ℕ) : Type 0 where
  pub label_short : p.len ≤ label_limit
  pub label_whole : length b ≡ 4096

-- a record's codes are written, and the pen is as it leaves it
pub record Emits (p : Pen) (b : List ℕ) (r : Record) (d d' : List ℕ) (p' : Pen) (b' : List ℕ) : Type 0 where
  pub adds : Adds v8 (pen_state p b) r d d' p.count p'.count
  pub state : pen_state p' b' ≡ after (pen_state p b) r
  pub fits : PenFits p' b'

-- ---- records one after another

pub data Written : State → List ℕ → Tally → List Record → State → List ℕ → Tally → Type 0 where
  none : {st : State} {d : List ℕ} {t : Tally} → Written st d t [] st d t
  more : {st st'' : State} {d d' d'' : List ℕ} {t t' t'' : Tally} {r : Record} {rs : List Record} → Adds v8 st r d d' t t'
      → Written (after st r) d' t' rs st'' d'' t'' → Written st d t (r ∷ rs) st'' d'' t''

-- ---- the records behind the run

-- reading the old file stands before records that are just what the writing rules give to its end
pub record Standing (file : List ℕ) (p : Place) (b : List ℕ) : Type 0 where
  pub ready : Ready file p b
  pub readable : (rest_of file p.at (state_at p b)).verdict ≡ Good
  pub ours : drop p.at file ≡ rules_from file p.at (state_at p b)

-- so many of them, and the pen can write them
pub record Behind (file : List ℕ) (w : Went) (b l : List ℕ) : Type 0 where
  pub standing : Standing file w.place b
  pub counted : w.left ≡ length (rest_of file w.place.at (state_at w.place b)).records
  pub fits : PenFits w.pen l
  pub few_bytes : w.pen.count.bytes ≤ file_limit + codes_limit
  pub few_records : w.pen.count.records + w.left ≤ 18446744073709551614

-- some of them are written, which leaves d': all, or as many as bring reading and writing to the same state
pub record WentOn (file : List ℕ) (w : Went) (b l d : List ℕ) (w' : Went) (b' l' d' : List ℕ) : Type 0 where
  pub done : ℕ
  pub sum : done + w'.left ≡ w.left
  pub behind : Behind file w' b' l'
  pub records : (rest_of file w'.place.at (state_at w'.place b')).records ≡ drop done (rest_of file w.place.at (state_at w.place b)).records
  pub written :
      Written (pen_state w.pen l) d w.pen.count (take done (rest_of file w.place.at (state_at w.place b)).records) (pen_state w'.pen l') d'
      w'.pen.count
  pub kept : length d' ≡ length d
  pub level : 0 < w'.left → state_at w'.place b' ≡ pen_state w'.pen l'

-- ---- the replacement

pub record PutsNew (new : List ℕ) (pen : Pen) (l d : List ℕ) (r : Pen) (l' d' : List ℕ) : Type 0 where
  pub written : Written (pen_state pen l) d pen.count (records_of sheet_version new).records (pen_state r l') d' r.count
  pub fits : PenFits r l'
  pub few_bytes : r.count.bytes ≤ file_limit + codes_limit
  pub few_records : r.count.records ≤ pen.count.records + length new
