-- What measuring says of the commonest items. Assumes nothing.
use Rattle.std.specs.Prelude.{ℕ, ◌+◌, ◌≤◌, List, Bool, true, false, Option, None, Some}
use Rattle.format.specs.Label.{label_limit}
use Rattle.format.specs.Sheet.{record_limit}
use Rattle.format.specs.State.{State}
use Rattle.format.specs.Reading.{next}
use Rattle.measure.specs.Measures.{Keeps, Goes, Makes}
use Rattle.measure.specs.declared.Measured.{Measured}
use Rattle.measure.specs.declared.Measured.TheVariants.{Moved, Made}

-- an item that makes a record, in every state of which this is kept
pub record CountsRecord (s : List ℕ) (size len bytes old : ℕ) (placed : Bool) : Type 0 where
  pub short : len ≤ label_limit
  pub small : bytes ≤ record_limit
  pub makes : (style : ℕ) (st : State) → Keeps st old style placed → Makes (next 8 s st) size bytes len style placed

abbrev pub counted_as : ℕ → ℕ → ℕ → Measured
counted_as size len head = Made size len (head + len)

-- of a leg
abbrev pub leg_counted : ℕ → ℕ → Bool → Option Measured
leg_counted size len true = Some (counted_as size len 34)
leg_counted size len false = None

abbrev pub Counts : Option Measured → List ℕ → ℕ → Bool → Type 0
Counts None s old placed = Unit
Counts (Some Moved) s old placed = (style : ℕ) (st : State) → Keeps st old style placed → Goes (next 8 s st) 13 old style true
Counts (Some (Made size len bytes)) s old placed = CountsRecord s size len bytes old placed
Counts (Some m) s old placed = ⊥
