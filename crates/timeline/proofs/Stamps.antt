-- A file's time by its header, and the part that is handed back by the times of two files. Assumes nothing.
use Prim.Native.Nat.{ℕ, ◌+◌}
use Rattle.std.specs.Prelude.{Result, Ok, Err}
use mathlib.Core.Path.{◌≡◌, refl, subst}
use mathlib.Core.List.{List, []}
use native.Mathlib.Omega.{arith}
use lib.ListN.{length, take, drop, length-drop}
use lib.Seq.{length-take-le}
use Rattle.format.specs.Header.{Opening, opened}
use Rattle.format.specs.Times.{seconds_of, stamp_from, stamp_opened, stamp_of, first, second, judged}
use Rattle.format.specs.Times.{compare_of, no_part, part_of, handed, later_part}
use Rattle.format.specs.declared.Handed.{Handed}
use Rattle.header.specs.Head.{Room, saying}
use Rattle.format.specs.declared.Stamp.{Stamp}
use Rattle.format.specs.declared.Refusal.{Refusal}
use Rattle.format.specs.declared.Later.{Later}
use Rattle.format.specs.declared.Later.TheVariants.{First, Second, Same}
use Rattle.format.specs.declared.Incomparable.{Incomparable}
use Rattle.format.specs.declared.Incomparable.TheVariants.{First as FirstRefused, Second as SecondRefused}
use Rattle.format.specs.Answers.{later_of}
use Rattle.timeline.specs.Handing.{Stands, line_in, place_in, handed_line, handed_place}

-- ---- a time that is another's stands where that one does

pub stands_at_lem : {r v : Result Stamp Refusal} (file : List ℕ) → r ≡ v → Stands r file → Stands v file
stands_at_lem file e t = subst (λ (x : Result Stamp Refusal). Stands x file) e t

-- ---- the time line of an opened file, by the lengths of its lines

pub stamp_whole : (file : List ℕ) (v p e t m : ℕ) → Room v p e t m file
    → stamp_from (seconds_of (take m (drop (25 + t) file))) (25 + t) m ≡ stamp_opened (opened v p (saying e t m file))
stamp_whole file v p e t m r =
    let a = length-drop 24 file in
    let b = length-drop (25 + t) file in
    let x : length (take t (drop 24 file)) ≡ t = length-take-le t (drop 24 file) (omega (arith, r.place_least, r.inside)) in
    let y : length (take m (drop (25 + t) file)) ≡ m = length-take-le m (drop (25 + t) file) (omega (arith, r.place_least, r.inside)) in
    simp (x, y)

-- ---- the part that is handed back

-- a part's bytes, and where it stands
pub record Part (bytes : List ℕ) (pointer : ℕ × ℕ) (h : Handed) (f s : List ℕ) (p q : ℕ × ℕ) : Type 0 where
  pub contents : bytes ≡ handed_line h f s
  pub place : pointer ≡ handed_place h p q

module _ (f s : List ℕ) (p q : ℕ × ℕ) (a b : Result Stamp Refusal) where
  of_first : first ≡ judged a b → Part (line_in a f) (place_in a p) (part_of 1 a) f s p q
  of_first e = go a
    where
      go : (x : Result Stamp Refusal) → Part (line_in x f) (place_in x p) (part_of 1 x) f s p q
      go (Err r) = record { contents = refl; place = refl }
      go (Ok x) = record { contents = refl; place = refl }

  of_second : second ≡ judged a b → Part (line_in b s) (place_in b q) (part_of 2 b) f s p q
  of_second e = go a b e
    where
      go : (y x : Result Stamp Refusal) → second ≡ judged y x → Part (line_in x s) (place_in x q) (part_of 2 x) f s p q
      go (Err y) (Err x) e = absurd (let z : ◌≡◌ {A = ℕ} 0 1 = cc in omega arith)
      go (Ok y) (Err x) e = absurd (let z : ◌≡◌ {A = ℕ} 0 1 = cc in omega arith)
      go y (Ok x) e = record { contents = refl; place = refl }

module _ (f s : List ℕ) (a b : Result Stamp Refusal) (ea : a ≡ stamp_of f) (eb : b ≡ stamp_of s) where
  pub part_is : (l : Result Later Incomparable) → later_of l ≡ judged a b → handed (later_of l) a b ≡ later_part f s
  unfolding later_part compare_of
  part_is l e = rw (e, ea, eb)

  pub no_part_is : (r : Incomparable) → later_of (Err r) ≡ judged a b → no_part ≡ later_part f s
  no_part_is (FirstRefused r) e = part_is (Err (FirstRefused r)) e
  no_part_is (SecondRefused r) e = part_is (Err (SecondRefused r)) e

  module _ (p q : ℕ × ℕ) where
    moved : (bytes : List ℕ) (pointer : ℕ × ℕ) (h : Handed) → h ≡ later_part f s → Part bytes pointer h f s p q → Part bytes pointer (later_part f s) f s p q
    moved bytes pointer h e t = subst (λ (x : Handed). Part bytes pointer x f s p q) e t

    pub first_part : later_of (Ok First) ≡ judged a b → Part (line_in a f) (place_in a p) (later_part f s) f s p q
    first_part e = moved _ _ _ (part_is (Ok First) e) (of_first f s p q a b e)

    pub second_part : later_of (Ok Second) ≡ judged a b → Part (line_in b s) (place_in b q) (later_part f s) f s p q
    second_part e = moved _ _ _ (part_is (Ok Second) e) (of_second f s p q a b e)

    pub same_part : later_of (Ok Same) ≡ judged a b → Part [] (p.0, 0 + p.1) (later_part f s) f s p q
    same_part e = moved _ _ _ (part_is (Ok Same) e) (record { contents = refl; place = refl })

    pub refused_part : (r : Incomparable) → later_of (Err r) ≡ judged a b → Part [] (p.0, 0 + p.1) (later_part f s) f s p q
    refused_part r e = moved _ _ no_part (no_part_is r e) (record { contents = refl; place = refl })
