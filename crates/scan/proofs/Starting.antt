-- Reading from the start of a file. Assumes nothing.
use Prim.Native.Nat.{ℕ}
use mathlib.Core.Path.{◌≡◌}
use mathlib.Core.List.{List}
use Rattle.format.specs.State.{start}
use Rattle.format.specs.Reading.{items_of}
use Rattle.scan.specs.Places.{state_at, left_at, Starts}
use Rattle.scan.specs.declared.Place.{Place}

pub starts_state : (p : Place) (at : ℕ) (b : List ℕ) → Starts p at → state_at p b ≡ start
starts_state p at b s = rw (s.label_empty, s.setting_is)

pub starts_left : (version : ℕ) (file : List ℕ) (p : Place) (at : ℕ) (b : List ℕ) → Starts p at → left_at version file p b ≡ items_of version at file
unfolding items_of
starts_left version file p at b s = rw (starts_state p at b s, s.place_is)
