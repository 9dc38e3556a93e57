-- What an index in lent room knows of the records made so far, and what the code's answers say. Assumes nothing.
use Rattle.std.specs.Prelude.{ℕ, ◌≤◌, ◌≡◌, List, ◌∷◌, length, Result, Ok, Err}
use Rattle.format.specs.State.{Record, station, section, Next, bad, end, on, made}
use Rattle.format.specs.Faults.{fault_number}
use Rattle.format.specs.declared.Fault.{Fault}
use Rattle.format.specs.declared.Point.{Point}
use Rattle.format.specs.declared.Section.{Section}
use Rattle.table.specs.Entries.{Answer as Looked, somewhere, nowhere, lookup, room_of, entries_of}
use Rattle.table.specs.Told.{Holds}
use Rattle.table.specs.declared.Index.{Index}
use Rattle.strict.specs.Strict.{Searched, found, unknown, searched, taken, Judgement, fine, faulty, judged}

abbrev pub as_searched : Looked → Searched
as_searched (somewhere p) = found p
as_searched nowhere = unknown

-- the index answers as a search through the records, and its names take the room that theirs do
pub record Knows (room : List ℕ) (i : Index) (earlier : List Record) : Type 0 where
  pub holds : Holds room i
  pub answers : (name : List ℕ) → as_searched (lookup (entries_of room i.count) name) ≡ searched earlier name
  pub takes : room_of (entries_of room i.count) ≡ taken earlier
  pub few : i.count ≤ length earlier

-- the judgement of a record after the earlier ones, and the index after it
abbrev pub JudgedTo : Result Index Fault → List ℕ → List Record → Record → Judgement → Type 0
JudgedTo (Err f) room earlier r j = j ≡ faulty (fault_number f)
JudgedTo (Ok i) room earlier r j = (j ≡ fine) × Knows room i (r ∷ earlier)

-- whatever came earlier, where the index knows it
abbrev pub JudgesIn : Result Index Fault → List ℕ → List ℕ → Index → Record → Type 0
JudgesIn a before after i r = (earlier : List Record) → Knows before i earlier → JudgedTo a after earlier r (judged (length before) earlier r)

-- a station and a cross-section of this name, whatever else they say
abbrev pub JudgesStation : Result Index Fault → List ℕ → List ℕ → Index → List ℕ → Point → Type 0
JudgesStation a before after i name p = (flags : ℕ) → JudgesIn a before after i (station (record { flags = flags; place = p }) name)

abbrev pub JudgesSection : Result Index Fault → List ℕ → Index → List ℕ → Type 0
JudgesSection a room i name = (g : Section) → JudgesIn a room room i (section g name)

-- ---- an item

-- one that makes a faulty record is refused
abbrev pub unless_faulty : Judgement → Next → Next
unless_faulty fine x = x
unless_faulty (faulty k) x = bad k

-- what an item comes to after the records made so far, where reading says what it comes to, with so much room for names
abbrev pub strict_next : ℕ → List Record → Next → Next
strict_next room earlier (made n r st) = unless_faulty (judged room earlier r) (made n r st)
strict_next room earlier (on n st) = on n st
strict_next room earlier (bad k) = bad k
strict_next room earlier end = end

-- the records made after it
abbrev pub behind : Next → List Record → List Record
behind (made n r st) earlier = r ∷ earlier
behind (bad k) earlier = earlier
behind end earlier = earlier
behind (on n st) earlier = earlier
