-- What the answers of `find`, `add` and `take` say. Assumes nothing.
use Rattle.std.specs.Prelude.{ℕ, ◌+◌, ◌≤◌, ◌<◌, ◌≡◌, List, [], ◌∷◌, ◌++◌, ◌⊎◌, Bool, true, false, Option, Some, None, Result, Ok, Err, length}
use Rattle.format.specs.Bytes.{to_le32}
use Rattle.table.specs.Hash.{hash_of}
use Rattle.table.specs.Room.{front_of, node_of}
use Rattle.table.specs.Entries.{Answer, somewhere, nowhere, lookup, room_of, entries_of}
use Rattle.table.specs.Good.{Good}
use Rattle.format.specs.declared.Fault.{Fault}
use Rattle.format.specs.declared.Fault.TheVariants.{StationMoved, NoRoomForNames}
use Rattle.format.specs.declared.Point.{Point}
use Rattle.table.specs.declared.Index.{Index}

-- a test's answer
abbrev pub Says : Bool → Type 0 → Type 0
Says true P = P
Says false P = P → ⊥

abbrev pub Holds : List ℕ → Index → Type 0
Holds r i = Good i.seed r i.count i.back i.spread

-- the bytes of a node
pub record NodeTold (b : List ℕ) (start size hash : ℕ) (p : Point) : Type 0 where
  pub bytes : b ≡ node_of (front_of start size (to_le32 hash)) (to_le32 p.x) (to_le32 p.y) (to_le32 p.z)
  pub hash_fits : hash < 4294967296
  pub x_fits : p.x < 4294967296
  pub y_fits : p.y < 4294967296
  pub z_fits : p.z < 4294967296

-- a search: the place, or the hash of a name that is not there
abbrev pub seen : Result Point ℕ → Answer
seen (Ok p) = somewhere p
seen (Err h) = nowhere

abbrev pub HashOf : Result Point ℕ → ℕ → List ℕ → Type 0
HashOf (Ok p) seed name = Unit
HashOf (Err h) seed name = h ≡ hash_of seed name

pub record FindTold (a : Result Point ℕ) (seed : ℕ) (r : List ℕ) (n : ℕ) (name : List ℕ) : Type 0 where
  pub same : seen a ≡ lookup (entries_of r n) name
  pub hash : HashOf a seed name

-- one more entry
pub record Grew (r r' : List ℕ) (n : ℕ) (name : List ℕ) (p : Point) (i : Index) : Type 0 where
  pub room : room_of (entries_of r n) + (length name + 32) ≤ length r
  pub count : i.count ≡ n + 1
  pub good : Holds r' i
  pub entries : entries_of r' i.count ≡ entries_of r n ++ (record { name = name; place = p } ∷ [])

pub record Stuck (r r' : List ℕ) (n : ℕ) (name : List ℕ) : Type 0 where
  pub no_room : length r < room_of (entries_of r n) + (length name + 32)
  pub kept : r' ≡ r

abbrev pub AddTold : Option Index → List ℕ → List ℕ → ℕ → List ℕ → Point → Type 0
AddTold None r r' n name p = Stuck r r' n name
AddTold (Some i) r r' n name p = Grew r r' n name p i

-- ---- a station of a strict reading: "A section whose full name no earlier station has is refused (18), a station whose name came earlier
-- with other coordinates too (19). Same name with the same coordinates is fine."

pub record KnownTold (r r' : List ℕ) (n : ℕ) (name : List ℕ) (p : Point) : Type 0 where
  pub there : lookup (entries_of r n) name ≡ somewhere p
  pub kept : r' ≡ r

pub record MovedTold (r r' : List ℕ) (n : ℕ) (name : List ℕ) (p : Point) : Type 0 where
  pub other : Point
  pub there : lookup (entries_of r n) name ≡ somewhere other
  pub differs : other ≡ p → ⊥
  pub kept : r' ≡ r

pub record FullTold (r r' : List ℕ) (n : ℕ) (name : List ℕ) : Type 0 where
  pub new : lookup (entries_of r n) name ≡ nowhere
  pub stuck : Stuck r r' n name

pub record KeptTold (r r' : List ℕ) (n : ℕ) (name : List ℕ) (p : Point) (i : Index) : Type 0 where
  pub new : lookup (entries_of r n) name ≡ nowhere
  pub grew : Grew r r' n name p i

-- the index after it is the old one where the name was there, and has one more entry where it is new
abbrev pub StationTold : Result Index Fault → List ℕ → List ℕ → Index → List ℕ → Point → Type 0
StationTold (Ok i) r r' x name p = (KnownTold r r' x.count name p × (i ≡ x)) ⊎ KeptTold r r' x.count name p i
StationTold (Err StationMoved) r r' x name p = MovedTold r r' x.count name p
StationTold (Err NoRoomForNames) r r' x name p = FullTold r r' x.count name
StationTold (Err f) r r' x name p = ⊥
