-- The records of a sheet as the code meets them: counted, and marked. Assumes nothing.
use Rattle.std.specs.Prelude.{◌≡◌, ℕ, ◌+◌, ◌*◌, ◌/◌, ◌%◌, ◌^◌, ◌<◌, ◌≤◌, Bool, false, ◌&&◌, List, length, ◌==◌, slice_index, slice_index_or, Result as Answer, Ok, Err}
use Rattle.format.specs.Refusals.{Result, Good, Refusal}
use Rattle.format.specs.Sheet.{records_of}
use Rattle.format.specs.Summary.{one, marks_in}
use Rattle.summary.specs.Bits.{Put}
use Rattle.format.specs.declared.Refusal.{Refusal as Refused}

-- whether the well-formed record at the front of s is an entrance: kind 2, flag 0x04
abbrev pub mark_at : List ℕ → Bool
mark_at s = slice_index s 2 == 2 && slice_index s 3 / 0x04 % 2 == 1

-- so many well-formed records, in so many bytes
pub record RecordsIn (n size : ℕ) (x : Result) : Type 0 where
  pub good : x.verdict ≡ Good
  pub many : length x.records ≡ n
  pub few : n ≤ size

-- that; or the refusal at the first that is not well-formed
abbrev pub CountedAs : Answer ℕ Refused → ℕ → Result → Type 0
CountedAs (Ok n) size x = RecordsIn n size x
CountedAs (Err r) size x = x.verdict ≡ Refusal r.number r.place

-- s holds well-formed records of some version, and their marks from bit `first` on fit into so many words
pub record RecordsFit (s : List ℕ) (first words : ℕ) : Type 0 where
  pub version : ℕ
  pub good : (records_of version s).verdict ≡ Good
  pub room : first + length (records_of version s).records ≤ 64 * words
  pub few : first + length (records_of version s).records < 2 ^ 64

-- by whichever version they are well-formed, their marks stand from bit `first` on
abbrev pub Marked : List ℕ → ℕ → List ℕ → List ℕ → Type 0
Marked s first ws ws' =
    (v : ℕ) → (records_of v s).verdict ≡ Good → Put ws ws' first 0 (length (records_of v s).records) (λ i. one (slice_index_or (marks_in (records_of v s).records) i false))
