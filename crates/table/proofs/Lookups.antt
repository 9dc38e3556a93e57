-- A search through the entries of n nodes, and the entries after one more. Assumes nothing.
use Prim.Native.Nat.{ℕ, zero, suc, ◌+◌, ◌≤◌, ◌<◌}
use mathlib.Core.Path.{◌≡◌, refl, ◌∙◌}
use mathlib.Core.List.{List, [], ◌∷◌, ◌++◌}
use mathlib.Core.Bool.{Bool, true, false}
use mathlib.Core.Logic.{⊎_elim}
use native.Mathlib.Omega.{arith}
use native.Mathlib.Nat.{eq-or-lt_of_le}
use native.Mathlib.Numerals.{add-one}
use lib.ListN.{length}
use Rattle.format.specs.Bytes.{pick, same}
use Rattle.format.proofs.Basics.{same_refl}
use Rattle.wire.proofs.Laws.{same_false}
use Rattle.table.specs.Room.{name_at, point_at}
use Rattle.table.specs.Entries.{Entry, somewhere, nowhere, lookup, room_of, entry_at, entries_of}
use Rattle.format.specs.declared.Point.{Point}

-- ---- one more entry at the end

pub lookup_front : (es : List Entry) (e : Entry) (name : List ℕ) (p : Point) → lookup es name ≡ somewhere p → lookup (es ++ (e ∷ [])) name ≡ somewhere p
unfolding lookup pick
lookup_front [] e name p h = cc
lookup_front (x ∷ es) e name p h = go (same x.name name) h (lookup_front es e name p)
  where
    go : (b : Bool) → pick b (somewhere x.place) (lookup es name) ≡ somewhere p → (lookup es name ≡ somewhere p → lookup (es ++ (e ∷ [])) name ≡ somewhere p) → pick b (somewhere x.place) (lookup (es ++ (e ∷ [])) name) ≡ somewhere p
    go true h f = h
    go false h f = f h

pub lookup_last : (es : List Entry) (e : Entry) (name : List ℕ) → lookup es name ≡ nowhere → lookup (es ++ (e ∷ [])) name ≡ pick (same e.name name) (somewhere e.place) nowhere
unfolding lookup pick
lookup_last [] e name h = refl
lookup_last (x ∷ es) e name h = go (same x.name name) h (lookup_last es e name)
  where
    go : (b : Bool) → pick b (somewhere x.place) (lookup es name) ≡ nowhere → (lookup es name ≡ nowhere → lookup (es ++ (e ∷ [])) name ≡ pick (same e.name name) (somewhere e.place) nowhere) → pick b (somewhere x.place) (lookup (es ++ (e ∷ [])) name) ≡ pick (same e.name name) (somewhere e.place) nowhere
    go true h f = cc
    go false h f = f h

pub room_last : (es : List Entry) (e : Entry) → room_of (es ++ (e ∷ [])) ≡ room_of es + (length e.name + 32)
unfolding room_of
room_last [] e = omega arith
room_last (x ∷ es) e = let h = room_last es e in omega arith

-- ---- the entries of n nodes

pub none : (r : List ℕ) (n : ℕ) (name : List ℕ) → ((j : ℕ) → j < n → name_at r j ≡ name → ⊥) → lookup (entries_of r n) name ≡ nowhere
unfolding lookup entries_of pick
none r zero name h = refl
none r (suc n) name h =
    lookup_last (entries_of r n) (entry_at r n) name (none r n name (λ j l e. h j (omega arith) e)) ∙ rw (same_false (name_at r n) name (h n (omega arith)))

pub one : (r : List ℕ) (n : ℕ) (name : List ℕ) (i : ℕ) → i < n → name_at r i ≡ name → ((j : ℕ) → j < n → name_at r j ≡ name → j ≡ i) → lookup (entries_of r n) name ≡ somewhere (point_at r i)
unfolding entries_of pick
one r zero name i l e u = absurd (omega arith)
one r (suc n) name i l e u = ⊎_elim new (old (λ m. one r n name i m e (λ j k d. u j (omega arith) d))) (eq-or-lt_of_le (pred_le i n l))
  where
    pred_le : (i n : ℕ) → i < suc n → i ≤ n
    pred_le i n l = omega arith

    old : (i < n → lookup (entries_of r n) name ≡ somewhere (point_at r i)) → i < n → lookup (entries_of r n ++ (entry_at r n ∷ [])) name ≡ somewhere (point_at r i)
    old f m = lookup_front (entries_of r n) (entry_at r n) name (point_at r i) (f m)

    new : i ≡ n → lookup (entries_of r n ++ (entry_at r n ∷ [])) name ≡ somewhere (point_at r i)
    new m =
        let f : name_at r n ≡ name = rw m at e in
        lookup_last (entries_of r n) (entry_at r n) name (none r n name (λ j k d. let q = u j (omega arith) d in omega arith)) ∙ rw (f, same_refl name, m)

-- ---- what is kept

pub entries_same : (r r' : List ℕ) (n : ℕ) → ((i : ℕ) → i < n → name_at r' i ≡ name_at r i) → ((i : ℕ) → i < n → point_at r' i ≡ point_at r i) → entries_of r' n ≡ entries_of r n
unfolding entries_of
entries_same r r' zero f g = refl
entries_same r r' (suc n) f g =
    rw (f n (omega arith), g n (omega arith), entries_same r r' n (λ i l. f i (omega arith)) (λ i l. g i (omega arith)))

pub entries_more : (r : List ℕ) (n : ℕ) → entries_of r (n + 1) ≡ entries_of r n ++ (entry_at r n ∷ [])
unfolding entries_of
entries_more r n = rw (add-one n)
