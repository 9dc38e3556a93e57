-- "For every answer that is an enum, a definition gives this paper's number and values for each case of the enum." Assumes nothing.
use Rattle.std.specs.Prelude.{ℕ, List, [], ◌∷◌, ℤ, Result, Ok, Err}
use Rattle.format.specs.Header.{Opening, shut, opened}
use Rattle.format.specs.Refusals.{Outcome, accepted, refused, Verdict, Good, Refusal as Refused}
use Rattle.format.specs.Stepping.{StepOutcome, wrote, nothing, ends, refuses}
use Rattle.format.specs.Times.{Comparison, first, second, equal, first_refused, second_refused}
use Rattle.format.specs.Reach.{ReachOutcome, spans, unspanned}
use Rattle.format.specs.Viewer.{ViewOutcome, viewed, unviewed}
use Rattle.format.specs.Summary.{SummaryOutcome, takes, untaken, EntrancesOutcome, holds, unheld}
use Rattle.format.specs.declared.Refusal.{Refusal}
use Rattle.format.specs.declared.Done.{Done}
use Rattle.format.specs.declared.Opened.{Opened}
use Rattle.format.specs.declared.Stepped.{Stepped}
use Rattle.format.specs.declared.Stepped.TheVariants.{Record, Nothing, End}
use Rattle.format.specs.declared.Later.{Later}
use Rattle.format.specs.declared.Later.TheVariants.{First, Second, Same}
use Rattle.format.specs.declared.Incomparable.{Incomparable}
use Rattle.format.specs.declared.Incomparable.TheVariants.{First as FirstRefused, Second as SecondRefused}
use Rattle.format.specs.declared.Corner.{Corner}
use Rattle.format.specs.declared.Reached.{Reached}
use Rattle.format.specs.declared.Entrances.{Entrances}

-- nothing refused, or "the refusal number and place"
abbrev pub verdict_of : Result Unit Refusal → Verdict
verdict_of (Ok u) = Good
verdict_of (Err r) = Refused r.number r.place

-- "answers bytes, records and file version"; a refusal has a number and a place
abbrev pub answer_of : Result Done Refusal → Outcome
answer_of (Ok d) = accepted d.bytes d.records d.version
answer_of (Err r) = refused r.number r.place

-- what opening a step reader answers: "the version and the first item's place"
pub data OpenOutcome : Type 0 where
  begun : ℕ → ℕ → OpenOutcome
  unopened : ℕ → ℕ → OpenOutcome

abbrev pub open_outcome : Opening → OpenOutcome
open_outcome (shut n p) = unopened n p
open_outcome (opened version place h) = begun version place

abbrev pub opened_of : Result Opened Refusal → OpenOutcome
opened_of (Ok o) = begun o.version o.place
opened_of (Err r) = unopened r.number r.place

-- "its record in a lent buffer, no record, the end, or the refusal"
abbrev pub stepped_of : Result Stepped Refusal → StepOutcome
stepped_of (Ok (Record bytes kept)) = wrote bytes kept
stepped_of (Ok Nothing) = nothing
stepped_of (Ok End) = ends
stepped_of (Err r) = refuses r.number r.place

-- "first, second or same"; "a refusal names the file"
abbrev pub later_of : Result Later Incomparable → Comparison
later_of (Ok First) = first
later_of (Ok Second) = second
later_of (Ok Same) = equal
later_of (Err (FirstRefused r)) = first_refused r.number r.place
later_of (Err (SecondRefused r)) = second_refused r.number r.place

-- #102: "the least and greatest x, y and z", "how many legs took part"
abbrev pub row_of : Corner → List ℤ
row_of c = c.x ∷ c.y ∷ c.z ∷ []

abbrev pub reached_of : Result Reached Refusal → ReachOutcome
reached_of (Ok b) = spans (row_of b.least ∷ row_of b.greatest ∷ []) b.legs
reached_of (Err r) = unspanned r.number r.place

-- #104: "the answer is their count"
abbrev pub viewed_of : Result ℕ Refusal → ViewOutcome
viewed_of (Ok legs) = viewed legs
viewed_of (Err r) = unviewed r.number r.place

-- #109: "how many entrances .. a stretch of records holds and where the next one is"
abbrev pub entrances_of : Result Entrances Refusal → EntrancesOutcome
entrances_of (Ok e) = holds e.count e.next
entrances_of (Err r) = unheld r.number r.place

-- "Making it and bringing it up to date both answer the words it then takes"
abbrev pub summed_of : Result ℕ Refusal → SummaryOutcome
summed_of (Ok words) = takes words
summed_of (Err r) = untaken r.number r.place
