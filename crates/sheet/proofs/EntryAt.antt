-- The record at a place of a list of records, as `read_entry` tells it of the part from there on. Assumes nothing.
use Prim.Native.Nat.{ℕ, ◌+◌, ◌-◌, ◌≤◌, ◌<◌}
use mathlib.Core.Path.{◌≡◌, sym, ap, ◌∙◌}
use mathlib.Core.List.{List}
use Rattle.std.specs.Prelude.{Some, None}
use native.Mathlib.Omega.{arith}
use lib.ListN.{length, take, drop, length-take, length-drop, drop_of_length-le}
use lib.Seq.{drop-drop}
use borrow.Author.Rules.{part_to_end}
use Rattle.format.specs.State.{Record}
use Rattle.format.specs.Sheet.{entry_of, flawed, entry, entry_step, records_from}
use Rattle.format.specs.Refusals.{stop, also, Good, Refusal}
use Rattle.format.specs.WellFormed.{WellFormed}
use Rattle.format.specs.Fields.{record_of}
use Rattle.format.specs.declared.Fields.{Fields}
use Rattle.format.proofs.SheetLaws.{entry_sized, records_more, records_none}
use Rattle.sheet.specs.Seen.{label_of, EntryTold}

abbrev pub part : List ℕ → ℕ → ℕ → List ℕ
part s a b = take (b - a) (drop a s)

-- nothing is left at the end
pub none_at : (version : ℕ) (s : List ℕ) (at place number : ℕ) → length s ≤ at → records_from version place (drop at s) number ≡ stop Good
none_at version s at place number h = rw (drop_of_length-le s h) (records_none version place number)

module _ (version : ℕ) (s : List ℕ) (at : ℕ) (h : at < length s) where
  more_at : (place number : ℕ) → records_from version place (drop at s) number ≡ entry_step (entry_of version (drop at s)) number
      (λ k m. records_from version (place + k) (drop k (drop at s)) m)
  more_at place number = records_more version place (drop at s) number (simp length-drop (omega arith))

  -- no well-formed record is there
  pub flawed_at : EntryTold None version (take (length s - at) (drop at s)) → (place number : ℕ)
      → records_from version place (drop at s) number ≡ stop (Refusal 12 number)
  flawed_at T place number = let e : flawed ≡ entry_of version (drop at s) = simp part_to_end at T.same in more_at place number ∙ rw (← e)

  -- one of n bytes is, whose label starts at its byte k
  module _ (n : ℕ) (f : Fields) (k : ℕ) (T : EntryTold (Some (record { size = n; fields = f; from = k })) version (take (length s - at) (drop at s))) where
    abbrev pub found : Record
    found = record_of f (part s (at + k) (at + n))

    name_is : label_of n k (take (length s - at) (drop at s)) ≡ part s (at + k) (at + n)
    name_is = let z : at + n - (at + k) ≡ n - k = omega arith in rw (part_to_end s at, drop-drop k at s, z)

    found_is : entry n found ≡ entry_of version (drop at s)
    found_is = ap (λ (l : List ℕ). entry n (record_of f l)) (sym name_is) ∙ T.same ∙ ap (entry_of version) (part_to_end s at)

    pub found_formed : WellFormed found
    found_formed = rw name_is at T.formed

    pub found_size : (3 ≤ n) × (at + n ≤ length s)
    found_size = let z = entry_sized version (drop at s) (sym found_is) in let l = length-drop at s in (z.least, omega (arith, z.inside))

    pub found_short : length (part s (at + k) (at + n)) ≤ 4096
    found_short = simp (length-take, length-drop) (omega (arith, T.inside.short))

    pub found_at : (place number : ℕ) → records_from version place (drop at s) number ≡ also found
        (records_from version (place + n) (drop (at + n) s) (number + 1))
    found_at place number = more_at place number ∙ rw (← found_is, drop-drop n at s)
