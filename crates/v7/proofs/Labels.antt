-- The codes that shorten a label and the length of what is appended, on plain values. Assumes nothing.
use Prim.Native.Nat.{ℕ, zero, suc, ◌+◌, ◌-◌, ◌/◌, ◌%◌, ◌≤◌, ◌<◌}
use mathlib.Core.Path.{◌≡◌, refl, sym, ap, ◌∙◌}
use mathlib.Core.List.{List, [], ◌∷◌, ◌++◌}
use native.Mathlib.Omega.{arith}
use borrow.Author.Tests.{lt-ltb, le-ltb, eq-eqb, ne_eqb}
use Rattle.format.specs.Bytes.{to_le16}
use Rattle.format.specs.V7Codes.{sixteens, trim_codes, shorten_codes, old_length_codes}
use Rattle.format.proofs.Basics.{pick_true, pick_false}
use Rattle.part.specs.Lays.{Lays}
use Rattle.part.proofs.Laying.{lays_as, lays_none, lays_within, lays_then}

-- ---- 16 bytes at a time

sixteens_next : (n : ℕ) → sixteens n ++ (0x1f ∷ []) ≡ sixteens (suc n)
unfolding sixteens
sixteens_next zero = refl
sixteens_next (suc n) = ap (λ (s : List ℕ). 0x1f ∷ s) (sixteens_next n)

-- of n codes all but `left` are written into d from `at` on, which leaves e; they end at `next`
pub record Going (d : List ℕ) (at n : ℕ) (e : List ℕ) (next left : ℕ) : Type 0 where
  pub few : left ≤ n
  pub laid : Lays d e at (sixteens (n - left)) (n - left) next

module _ {d : List ℕ} {at n : ℕ} where
  pub going_first : Going d at n d at n
  unfolding sixteens
  going_first = let z : n - n ≡ 0 = omega arith in record { few = omega arith; laid = rw z (lays_none 0) }

  pub going_next : {e f : List ℕ} {next r left : ℕ} → Going d at n e next left → 0 < left → Lays e f next (0x1f ∷ []) 1 r → Going d at n f r (left - 1)
  going_next {left = left} G h p =
      let k = G.few in
      let z : n - (left - 1) ≡ suc (n - left) = omega arith in
      record { few = omega arith; laid = rw z (lays_within (lays_as (lays_then G.laid p) (sixteens_next (n - left))) (suc (n - left)) (omega arith)) }

  pub going_last : {e : List ℕ} {next left : ℕ} → Going d at n e next left → left ≤ 0 → Lays d e at (sixteens n) n next
  going_last {left = left} G h = let z : n - left ≡ n = omega arith in rw z at G.laid

-- ---- then the rest

module _ (d : ℕ) where
  pub trims_none : d % 16 ≡ 0 → sixteens (d / 16) ++ [] ≡ trim_codes d
  unfolding trim_codes
  trims_none e = sym (ap (λ (s : List ℕ). sixteens (d / 16) ++ s) (pick_true _ _ (eq-eqb (d % 16) 0 e)))

  pub trims_rest : (d % 16 ≡ 0 → ⊥) → sixteens (d / 16) ++ ((0x0f + d % 16) ∷ []) ≡ trim_codes d
  unfolding trim_codes
  trims_rest e = sym (ap (λ (s : List ℕ). sixteens (d / 16) ++ s) (pick_false _ _ (ne_eqb (d % 16) 0 e)))

-- ---- to the first k of n bytes

module _ (n k : ℕ) where
  pub shorten_some : (k ≡ 0 → ⊥) → trim_codes (n - k) ≡ shorten_codes n k
  unfolding shorten_codes
  shorten_some h = sym (pick_false _ _ (ne_eqb k 0 h))

  pub shorten_none : k ≡ 0 → n ≡ 0 → [] ≡ shorten_codes n k
  unfolding shorten_codes
  shorten_none h e = sym (pick_true _ _ (eq-eqb k 0 h) ∙ pick_true _ _ (eq-eqb n 0 e))

  pub shorten_all : k ≡ 0 → (n ≡ 0 → ⊥) → 0x00 ∷ [] ≡ shorten_codes n k
  unfolding shorten_codes
  shorten_all h e = sym (pick_true _ _ (eq-eqb k 0 h) ∙ pick_false _ _ (ne_eqb n 0 e))

-- ---- lengths

module _ (n : ℕ) where
  pub length_short : n < 0xfe → n ∷ [] ≡ old_length_codes n
  unfolding old_length_codes
  length_short h = sym (pick_true _ _ (lt-ltb n 0xfe h))

  pub length_long : 0xfe ≤ n → n < 65790 → 0xfe ∷ to_le16 (n - 254) ≡ old_length_codes n
  unfolding old_length_codes
  length_long h k = sym (pick_false _ _ (le-ltb n 0xfe h) ∙ pick_true _ _ (lt-ltb n 65790 k))
