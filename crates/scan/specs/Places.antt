-- Where reading stands, and the next record there. Assumes nothing.
use Rattle.std.specs.Prelude.{ℕ, ◌+◌, ◌≤◌, ◌<◌, ◌≡◌, List, length, take, drop, ltb, Result as Answered, Ok, Err}
use Rattle.format.specs.Bytes.{pick}
use Rattle.format.specs.Iterate.{iter}
use Rattle.format.specs.Label.{label_limit}
use Rattle.format.specs.State.{State, start_setting, Record, Next, bad, end, on, made}
use Rattle.format.specs.Refusals.{Result, stop, also, Verdict, Good, Refusal}
use Rattle.format.specs.Reading.{next, ended, run}
use Rattle.format.specs.Fields.{record_of, state_of}
use Rattle.format.specs.declared.Refusal.{Refusal as Refused}
use Rattle.scan.specs.declared.Place.{Place}
use Rattle.scan.specs.declared.Found.{Found}
use Rattle.scan.specs.declared.Found.TheVariants.{End, Record as Recorded}

-- ---- where reading stands; b is the label's buffer

abbrev pub label_in : Place → List ℕ → List ℕ
label_in p b = take p.len b

-- the state there
abbrev pub state_at : Place → List ℕ → State
state_at p b = state_of p.setting (label_in p b)

-- what the file comes to from there on
abbrev pub left_at : ℕ → List ℕ → Place → List ℕ → Result
left_at version file p b = run version p.at (drop p.at file) (state_at p b)

-- a place that reading of the file can have
pub record Inside (file : List ℕ) (p : Place) (b : List ℕ) : Type 0 where
  pub place_inside : p.at ≤ length file
  pub label_short : p.len ≤ label_limit
  pub label_whole : length b ≡ 4096

-- "At the start the label is empty, the date none, the style "not said" (5 ..), the position unset"
pub record Starts (p : Place) (at : ℕ) : Type 0 where
  pub place_is : p.at ≡ at
  pub label_empty : p.len ≡ 0
  pub setting_is : p.setting ≡ start_setting

-- ---- the next record

-- reading stops; or a record is made, and reading goes on from a byte and in a state
pub data Coming : Type 0 where
  stops : Verdict → Coming
  makes : Record → ℕ → State → Coming

-- by what the item at a place comes to
abbrev pub coming_item : Next → ℕ → List ℕ → (ℕ → State → Coming) → Coming
coming_item (bad k) at s go = stops (Refusal k at)
coming_item end at s go = stops (ended at s)
coming_item (on n st) at s go = go n st
coming_item (made n r st) at s go = makes r (at + n) st

unfoldable pub coming_step : ℕ → ℕ → List ℕ → State → (ℕ → State → Coming) → Coming
coming_step version at s st go = coming_item (next version s st) at s go

-- what the items of s come to up to the first that makes a record, with `at` bytes before s: the law `coming_eq` is its equation
unfoldable pub coming : ℕ → ℕ → List ℕ → State → Coming
coming version at s st = iter (coming_step version) (λ p. stops (Refusal 5 p)) at s st

-- the end item with `left` bytes from it on, as `ended` has it
unfoldable pub ended_at : ℕ → ℕ → Answered Found Refused
ended_at at left = pick (ltb 1 left) (Err (record { number = 10; place = at + 1 })) (Ok End)

-- an answer and the label's buffer after it, as the definition's value
abbrev pub found_coming : Answered Found Refused → List ℕ → Coming
found_coming (Err r) b = stops (Refusal r.number r.place)
found_coming (Ok End) b = stops Good
found_coming (Ok (Recorded p f)) b = makes (record_of f (label_in p b)) p.at (state_at p b)

-- what the file comes to, by an answer and the label's buffer after it
abbrev pub found_result : ℕ → List ℕ → Answered Found Refused → List ℕ → Result
found_result version file (Err r) b = stop (Refusal r.number r.place)
found_result version file (Ok End) b = stop Good
found_result version file (Ok (Recorded p f)) b = also (record_of f (label_in p b)) (left_at version file p b)

-- reading has gone on, and stands in the file
abbrev pub Further : List ℕ → Place → Answered Found Refused → List ℕ → Type 0
Further file was (Err r) b = length b ≡ 4096
Further file was (Ok End) b = length b ≡ 4096
Further file was (Ok (Recorded p f)) b = (was.at < p.at) × Inside file p b

pub record Finds (version : ℕ) (file : List ℕ) (was : Place) (b : List ℕ) (r : Answered Found Refused) (b' : List ℕ) : Type 0 where
  pub next_is : found_coming r b' ≡ coming version was.at (drop was.at file) (state_at was b)
  pub same : left_at version file was b ≡ found_result version file r b'
  pub further : Further file was r b'
