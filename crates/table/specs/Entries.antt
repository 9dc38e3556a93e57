-- What the index says: the names in the order in which they came, each with its place, and a search through them. Assumes nothing.
use Rattle.std.specs.Prelude.{ℕ, zero, suc, ◌+◌, List, [], ◌∷◌, ◌++◌, length}
use Rattle.format.specs.Bytes.{pick, same}
use Rattle.format.specs.declared.Point.{Point}
use Rattle.table.specs.Room.{name_at, point_at}

pub record Entry : Type 0 where
  pub name : List ℕ
  pub place : Point

pub data Answer : Type 0 where
  somewhere : Point → Answer
  nowhere : Answer

-- the first entry with this name
unfoldable pub lookup : List Entry → List ℕ → Answer
lookup [] name = nowhere
lookup (e ∷ es) name = pick (same e.name name) (somewhere e.place) (lookup es name)

-- "Each different name takes its own bytes and 32 more of that room"
unfoldable pub room_of : List Entry → ℕ
room_of [] = 0
room_of (e ∷ es) = length e.name + 32 + room_of es

-- the entry of node i
abbrev pub entry_at : List ℕ → ℕ → Entry
entry_at r i = record { name = name_at r i; place = point_at r i }

-- the entries of n nodes
unfoldable pub entries_of : List ℕ → ℕ → List Entry
entries_of r zero = []
entries_of r (suc n) = entries_of r n ++ (entry_at r n ∷ [])
