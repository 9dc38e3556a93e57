-- What a file's time says in document 01's terms, and the part of a file that is handed back. Assumes nothing.
use Rattle.std.specs.Prelude.{ℕ, zero, suc, ◌+◌, ◌≤◌, ◌≡◌, List, [], length, take, drop, Option, Result, Ok, Err}
use Rattle.format.specs.Times.{stamp_from}
use Rattle.format.specs.declared.Handed.{Handed}
use Rattle.format.specs.declared.Refusal.{Refusal}
use Rattle.format.specs.declared.Stamp.{Stamp}

-- the time line stands in the file
abbrev pub Stands : Result Stamp Refusal → List ℕ → Type 0
Stands (Err r) file = Unit
Stands (Ok s) file = s.place + s.size ≤ length file

-- an answer that stands for what is due of the n bytes at p
pub record Stamping (r : Result Stamp Refusal) (file : List ℕ) (due : Option ℕ) (p n : ℕ) : Type 0 where
  pub same : r ≡ stamp_from due p n
  pub room : Stands r file

-- a file's time line, and where it stands in memory: a pointer is the block and the place in it
abbrev pub line_in : Result Stamp Refusal → List ℕ → List ℕ
line_in (Err r) file = []
line_in (Ok s) file = take s.size (drop s.place file)

abbrev pub place_in : Result Stamp Refusal → ℕ × ℕ → ℕ × ℕ
place_in (Err r) f = (f.0, 0 + f.1)
place_in (Ok s) f = (f.0, s.place + f.1)

-- the file that a part is of: 1 the first, 2 the second; 0 for the empty part
abbrev pub file_named : ℕ → List ℕ → List ℕ → List ℕ
file_named zero first second = []
file_named (suc zero) first second = first
file_named (suc (suc k)) first second = second

-- "handed back as that part of the file it came from; an empty part when same or refused"
abbrev pub handed_line : Handed → List ℕ → List ℕ → List ℕ
handed_line h first second = take h.size (drop h.place (file_named h.file first second))

-- where that part stands in memory. Document 01 leaves the empty part's place free: it is the front of the first file.
abbrev pub pointer_of : ℕ → ℕ × ℕ → ℕ × ℕ → ℕ × ℕ
pointer_of zero first second = first
pointer_of (suc zero) first second = first
pointer_of (suc (suc k)) first second = second

abbrev pub handed_place : Handed → ℕ × ℕ → ℕ × ℕ → ℕ × ℕ
handed_place h first second = ((pointer_of h.file first second).0, h.place + (pointer_of h.file first second).1)
