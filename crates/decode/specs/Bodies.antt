-- What an item with a label is besides it. Assumes nothing.
use Rattle.std.specs.Prelude.{ℕ, ◌≡◌, List}
use Rattle.format.specs.Items.{Item, Stop as stop_item, Xsect, Label as station_placed, Line as line_placed}
use Rattle.decode.specs.declared.Body.{Body}
use Rattle.decode.specs.declared.Body.TheVariants.{Only, Section, Station as StationBody, Line as LineBody}

-- the item that a body makes; `Only` makes none
abbrev pub body_item : Body → ℕ → List ℕ → Item
body_item Only d added = stop_item
body_item (Section last size) d added = Xsect last size d added
body_item (StationBody flags place) d added = station_placed flags place d added
body_item (LineBody flags place) d added = line_placed flags place d added

-- a body that makes one
abbrev pub Bodied : Body → Type 0
Bodied Only = ⊥
Bodied (Section last size) = Unit
Bodied (StationBody flags place) = Unit
Bodied (LineBody flags place) = Unit

-- a body makes what make does, and it makes one
pub record Bodies (r : Body) (make : ℕ → List ℕ → Item) : Type 0 where
  pub same : (d : ℕ) (added : List ℕ) → body_item r d added ≡ make d added
  pub bodied : Bodied r
