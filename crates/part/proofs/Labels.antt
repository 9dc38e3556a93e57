-- What two labels have in common, and the numbers of a label part, on plain values. Assumes nothing.
use Prim.Native.Nat.{ℕ, suc, ◌+◌, ◌-◌, ◌*◌, ◌≤◌, ◌<◌}
use mathlib.Core.Path.{◌≡◌, refl, sym, ap, ◌∙◌}
use mathlib.Core.List.{List, [], ◌∷◌, ◌++◌}
use mathlib.Core.Bool.{true, false, ◌&&◌}
use native.Mathlib.Omega.{arith}
use lib.ListN.{length}
use lib.Seq.{take_all}
use lib.Dec.{leb}
use borrow.Author.Tests.{lt-ltb, le-ltb, leb-true, eq-eqb}
use Rattle.format.specs.Bytes.{pick, same, to_le32}
use Rattle.format.specs.Codes.{common, kept_bytes, length_codes, short_part, part_codes}
use Rattle.format.proofs.Basics.{pick_true, pick_false, both, same_true, same_refl}
use Rattle.format.proofs.WritingLaws.{common_take}
use Rattle.wire.proofs.Laws.{same_false}

-- ---- whether two labels are the same, by how much they have in common

common_self : (l : List ℕ) → common l l ≡ length l
unfolding common pick
common_self [] = refl
common_self (x ∷ l) = rw (eq-eqb x x refl) (ap suc (common_self l))

module _ (l m : List ℕ) where
  both_lengths : l ≡ m → (common l m ≡ length l) × (common l m ≡ length m)
  both_lengths e = rw (← e) (common_self l, common_self l)

  pub first_longer : common l m < length l → false ≡ same l m
  first_longer h = sym (same_false l m (λ e. let z = both_lengths e in omega arith))

  pub second_longer : common l m < length m → false ≡ same l m
  second_longer h = sym (same_false l m (λ e. let z = both_lengths e in omega arith))

  pub neither_longer : length l ≤ common l m → length m ≤ common l m → true ≡ same l m
  neither_longer h k =
      let e : l ≡ m = sym (take_all (common l m) l h) ∙ common_take l m ∙ take_all (common l m) m k in
      rw (← e) (sym (same_refl l))

  -- ---- what a station or a cross-section keeps

  same_length : true ≡ same l m → common l m ≡ length l
  same_length e = (both_lengths (same_true l m (sym e))).0

  pub kept_same : true ≡ same l m → common l m - 1 ≡ kept_bytes l m
  unfolding kept_bytes
  kept_same e = rw (same_length e) (sym (pick_true _ _ (sym e)))

  pub kept_other : false ≡ same l m → common l m ≡ kept_bytes l m
  unfolding kept_bytes
  kept_other e = sym (pick_false _ _ (sym e))

-- ---- lengths and label parts

pub length_short : (n : ℕ) → n < 255 → n ∷ [] ≡ length_codes n
unfolding length_codes
length_short n h = sym (pick_true _ _ (lt-ltb n 255 h))

pub length_long : (n : ℕ) → 255 ≤ n → 255 ∷ to_le32 n ≡ length_codes n
unfolding length_codes
length_long n h = sym (pick_false _ _ (le-ltb n 255 h))

module _ (d a : ℕ) where
  pub part_short : true ≡ short_part d a → (16 * d + a) ∷ [] ≡ part_codes d a
  unfolding part_codes
  part_short e = sym (pick_true _ _ (sym e))

  pub part_long : false ≡ short_part d a → 0 ∷ (length_codes d ++ length_codes a) ≡ part_codes d a
  unfolding part_codes
  part_long e = sym (pick_false _ _ (sym e))

  pub part_byte : true ≡ short_part d a → 16 * d + a ≤ 255
  part_byte e =
      let f = both (leb d 15) (leb a 15) (both (leb d 15 && leb a 15) _ (sym e)).0 in
      let h : d ≤ 15 = leb-true d 15 f.0 in
      let k : a ≤ 15 = leb-true a 15 f.1 in
      omega arith
