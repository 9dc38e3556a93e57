-- Records of a file read one after another, each with the codes that the writing rules give. Assumes nothing.
use Rattle.std.specs.Prelude.{ℕ, ◌+◌, ◌-◌, ◌*◌, ◌≤◌, ◌<◌, ◌≡◌, List, ◌∷◌, ◌++◌, length, get_or, take, drop, Option, None, Some, Result as Answered, Ok, Err}
use Rattle.format.specs.Bytes.{le32}
use Rattle.format.specs.Items.{point_of}
use Rattle.format.specs.Label.{label_limit}
use Rattle.format.specs.declared.Point.{Point}
use Rattle.format.specs.declared.Setting.{Setting}
use Rattle.format.specs.Header.{file_limit}
use Rattle.format.specs.State.{State, Record, leg}
use Rattle.format.specs.Refusals.{Result, stop, also, Good, Refusal}
use Rattle.format.specs.WellFormed.{GoodDated, GoodPoint, AllWellFormed}
use Rattle.format.specs.Reading.{run}
use Rattle.format.specs.Writing.{v8, codes_all, after_all, encode_all, records_verdict}
use Rattle.format.specs.Codes.{codes, after, closing}
use Rattle.format.specs.Fields.{record_of}
use Rattle.scan.specs.Places.{label_in, state_at, Inside}
use Rattle.scan.specs.declared.Place.{Place}
use Rattle.format.specs.declared.Refusal.{Refusal as Refused}
use Rattle.judge.specs.declared.Brief.{Brief}
use Rattle.judge.specs.declared.Taken.{Taken}
use Rattle.judge.specs.declared.Taken.TheVariants.{Foreign, End, Record as Next}
use Rattle.judge.specs.declared.Stretch.{Stretch}
use Rattle.judge.specs.declared.Stretch.TheVariants.{Foreign as StretchForeign, End as StretchEnd, Passed}

-- ---- from a byte on, in a state

-- what a v8 file comes to
abbrev pub rest_of : List ℕ → ℕ → State → Result
rest_of file at st = run 8 at (drop at file) st

-- what the writing rules give for its records
abbrev pub rules_from : List ℕ → ℕ → State → List ℕ
rules_from file at st = encode_all v8 st (rest_of file at st).records

-- style, date and position as reading leaves them
abbrev pub GoodPosition : Option Point → Type 0
GoodPosition None = Unit
GoodPosition (Some p) = GoodPoint p

pub record GoodSetting (s : Setting) : Type 0 where
  pub style_fits : s.style ≤ 5
  pub date_fits : GoodDated s.date
  pub position_fits : GoodPosition s.position

-- the records there are well-formed, and none is refused with 13; what they find is as reading leaves it
pub record Sound (file : List ℕ) (at : ℕ) (st : State) : Type 0 where
  pub good : GoodSetting st.setting
  pub formed : AllWellFormed (rest_of file at st).records
  pub sayable : records_verdict v8 0 st (rest_of file at st).records ≡ Good

-- the same where reading stands; b holds the label
pub record Ready (file : List ℕ) (p : Place) (b : List ℕ) : Type 0 where
  pub small : length file ≤ file_limit
  pub inside : Inside file p b
  pub sound : Sound file p.at (state_at p b)

-- ---- one record

-- r is the next record
pub record Met (file : List ℕ) (p : Place) (b : List ℕ) (r : Record) : Type 0 where
  pub others : List Record
  pub records : (rest_of file p.at (state_at p b)).records ≡ r ∷ others

-- its codes are those that the writing rules give, and reading stands behind them
pub record Steps (file : List ℕ) (p : Place) (b : List ℕ) (to : Place) (b' : List ℕ) (r : Record) : Type 0 where
  pub inside : Inside file to b'
  pub there : drop p.at file ≡ codes (state_at p b) r ++ drop to.at file
  pub place_is : to.at ≡ p.at + length (codes (state_at p b) r)
  pub state : state_at to b' ≡ after (state_at p b) r
  pub further : p.at < to.at
  pub left : rest_of file p.at (state_at p b) ≡ also r (rest_of file to.at (state_at to b'))

abbrev pub Takes : List ℕ → Place → List ℕ → Answered Taken Refused → List ℕ → Type 0
Takes file p b (Err r) b' = rest_of file p.at (state_at p b) ≡ stop (Refusal r.number r.place)
Takes file p b (Ok Foreign) b' = drop p.at file ≡ rules_from file p.at (state_at p b) → ⊥
Takes file p b (Ok End) b' = (rest_of file p.at (state_at p b) ≡ stop Good) × (drop p.at file ≡ closing p.setting.style)
Takes file p b (Ok (Next to f)) b' = Steps file p b to b' (record_of f (label_in to b'))

-- ---- the commonest record

-- a LINE with a label part of one byte, 16D+A, of which no more could have stayed: D = 0, A = 0 or the first bytes differ; l is the label
-- before it
pub record BriefLine (s l : List ℕ) (keep add : ℕ) : Type 0 where
  pub there : 29 ≤ length s
  pub low : 0x40 ≤ get_or s 0 0
  pub high : get_or s 0 0 ≤ 0x47
  pub part : get_or s 1 0 ≡ 16 * (length l - keep) + add
  pub some : 0 < length l - keep + add
  pub kept : keep ≤ length l
  pub few_off : length l - keep ≤ 15
  pub few_add : add ≤ 15
  pub few : keep + 16 ≤ label_limit
  pub differs : 0 < length l - keep → 0 < add → get_or l keep 0 ≡ get_or s 2 0 → ⊥

abbrev pub Briefs : Option Brief → List ℕ → List ℕ → Type 0
Briefs None s l = Unit
Briefs (Some line) s l = BriefLine s l line.keep line.add

-- the leg that it makes
abbrev pub brief_leg : List ℕ → State → Point → ℕ → ℕ → Record
brief_leg s st from keep add =
    leg (record { flags = get_or s 0 0 - 0x40; style = st.setting.style; date = st.setting.date; from = from; to = point_of le32 (drop (2 + add) s) })
    (take keep st.label ++ take add (drop 2 s))

-- one record more is passed, or the label is as it was
pub record PassedOn (file : List ℕ) (p : Place) (b : List ℕ) (to : Place) (b' : List ℕ) : Type 0 where
  pub made : Record
  pub steps : Steps file p b to b' made

abbrev pub Passes : List ℕ → Place → List ℕ → Option Place → List ℕ → Type 0
Passes file p b None b' = b' ≡ b
Passes file p b (Some to) b' = PassedOn file p b to b'

-- ---- records one after another

-- from a byte on, in a state, the codes of j records are those that the writing rules give, and reading stands behind them
pub record Walks (file : List ℕ) (at : ℕ) (st : State) (j : ℕ) (to : Place) (b : List ℕ) : Type 0 where
  pub inside : Inside file to b
  pub there : drop at file ≡ codes_all v8 st (take j (rest_of file at st).records) ++ drop to.at file
  pub place_is : to.at ≡ at + length (codes_all v8 st (take j (rest_of file at st).records))
  pub state : state_at to b ≡ after_all v8 st (take j (rest_of file at st).records)
  pub few : at + j ≤ to.at
  pub number : j ≤ length (rest_of file at st).records
  pub records : (rest_of file to.at (state_at to b)).records ≡ drop j (rest_of file at st).records
  pub verdict : (rest_of file to.at (state_at to b)).verdict ≡ (rest_of file at st).verdict

-- the file ends there after n records, all as the writing rules give them
pub record Ends (file : List ℕ) (at : ℕ) (st : State) (n : ℕ) : Type 0 where
  pub readable : (rest_of file at st).verdict ≡ Good
  pub counted : n ≡ length (rest_of file at st).records
  pub few : at + n ≤ length file
  pub ours : drop at file ≡ rules_from file at st

-- at most so many records
abbrev pub Stretches : List ℕ → Place → List ℕ → ℕ → Answered Stretch Refused → List ℕ → Type 0
Stretches file p b limit (Err r) b' = (rest_of file p.at (state_at p b)).verdict ≡ Refusal r.number r.place
Stretches file p b limit (Ok StretchForeign) b' = drop p.at file ≡ rules_from file p.at (state_at p b) → ⊥
Stretches file p b limit (Ok (StretchEnd n)) b' = Ends file p.at (state_at p b) n × (n < limit)
Stretches file p b limit (Ok (Passed to)) b' = Walks file p.at (state_at p b) limit to b'
