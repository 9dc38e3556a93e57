-- Signed numbers as a call passes them and as it gives them back, by their bits; rows and boxes of them. Assumes nothing.
use Prim.Native.Nat.{ℕ, zero, suc, ◌-◌, ◌≤◌, ◌<◌, ◌^◌}
use mathlib.Core.Path.{◌≡◌, refl, sym, ap, ◌∙◌}
use mathlib.Core.List.{List, [], ◌∷◌}
use mathlib.Core.Bool.{Bool, true, false}
use native.Mathlib.Nat.{zero-add}
use native.Mathlib.Omega.{arith}
use lib.ListN.{get_or}
use lib.IntN.{ℤ, pos, negsuc, ◌-ℤ◌}
use lib.Signed.{mag, lt_z}
use mir.Syntax.{w32}
use mir.Val.{SFits, to_z, of_z}
use mir.ValLaws.{to_z-of_z, to_z_pos}
use Rattle.format.specs.Reach.{signed, axis_x, axis_y, axis_z, lesser, greater, along}
use Rattle.format.specs.declared.Point.{Point}
use Rattle.format.proofs.Basics.{pick_true, pick_false}
use Rattle.format.proofs.ReachLaws.{signed_low, signed_high}
use Rattle.reach.specs.Reaching.{row_from, bounds_from}

-- ---- the i32 of a bit pattern

pub low_bits : (n : ℕ) → n < 0x80000000 → to_z w32 n ≡ signed n
low_bits n h = to_z_pos w32 n h ∙ sym (signed_low n h)

minus : (k : ℕ) → negsuc 0 -ℤ pos k ≡ negsuc k
minus zero = refl
minus (suc k) = ap (λ (j : ℕ). negsuc (suc j)) (zero-add k)

pub high_number : (n : ℕ) → 0x80000000 ≤ n → negsuc 0 -ℤ to_z w32 (0xffffffff - n) ≡ negsuc (0xffffffff - n)
high_number n h = rw (to_z_pos w32 (0xffffffff - n) (omega arith)) (minus (0xffffffff - n))

pub high_fits : (n : ℕ) → 0x80000000 ≤ n → SFits w32 (negsuc 0 -ℤ to_z w32 (0xffffffff - n))
high_fits n h = rw (high_number n h) (record { sfits = omega arith })

pub high_bits : (n : ℕ) → 0x80000000 ≤ n → to_z w32 (of_z w32 (negsuc 0 -ℤ to_z w32 (0xffffffff - n))) ≡ signed n
high_bits n h = to_z-of_z w32 _ (high_fits n h) ∙ high_number n h ∙ sym (signed_high n h)

-- ---- the lesser and the greater

module _ (a b x : ℤ) (ha : SFits w32 a) (hb : SFits w32 b) (e : b ≡ x) where
  tested : (t : Bool) → lt_z (to_z w32 (of_z w32 a)) (to_z w32 (of_z w32 b)) ≡ t → lt_z a x ≡ t
  tested t q = rw (to_z-of_z w32 a ha, to_z-of_z w32 b hb, e) at q

  pub lesser_first : lt_z (to_z w32 (of_z w32 a)) (to_z w32 (of_z w32 b)) ≡ true → to_z w32 (of_z w32 a) ≡ lesser a x
  lesser_first q = to_z-of_z w32 a ha ∙ sym (pick_true a x (tested true q))

  pub lesser_second : lt_z (to_z w32 (of_z w32 a)) (to_z w32 (of_z w32 b)) ≡ false → to_z w32 (of_z w32 b) ≡ lesser a x
  lesser_second q = to_z-of_z w32 b hb ∙ e ∙ sym (pick_false a x (tested false q))

  pub greater_second : lt_z (to_z w32 (of_z w32 a)) (to_z w32 (of_z w32 b)) ≡ true → to_z w32 (of_z w32 b) ≡ greater a x
  greater_second q = to_z-of_z w32 b hb ∙ e ∙ sym (pick_true x a (tested true q))

  pub greater_first : lt_z (to_z w32 (of_z w32 a)) (to_z w32 (of_z w32 b)) ≡ false → to_z w32 (of_z w32 a) ≡ greater a x
  greater_first q = to_z-of_z w32 a ha ∙ sym (pick_false x a (tested false q))

-- ---- rows and boxes

pub read : (x : ℤ) → mag x < 2 ^ 31 → to_z w32 (of_z w32 x) ≡ x
read x h = to_z-of_z w32 x (record { sfits = h })

-- what a call made of an element
pub came : (g : ℤ → ℤ) (x r : ℤ) → mag x < 2 ^ 31 → mag r < 2 ^ 31 → r ≡ g (to_z w32 (of_z w32 x)) → to_z w32 (of_z w32 r) ≡ g x
came g x r hx hr e = read r hr ∙ e ∙ ap g (read x hx)

pub row_made : (f : ℤ → ℤ → ℤ) (a : List ℤ) (p : Point) {x y z : ℤ}
    → x ≡ f (get_or a 0 (pos 0)) (axis_x p) → y ≡ f (get_or a 1 (pos 0)) (axis_y p) → z ≡ f (get_or a 2 (pos 0)) (axis_z p)
    → ◌≡◌ {A = List ℤ} (x ∷ y ∷ z ∷ []) (row_from f a (p ∷ []))
unfolding row_from along
row_made f a p d e g = rw (d, e, g) refl

pub box_made : (b : List (List ℤ)) (p : Point) {u v : List ℤ} → u ≡ row_from lesser (get_or b 0 []) (p ∷ []) → v ≡ row_from greater (get_or b 1 []) (p ∷ [])
    → ◌≡◌ {A = List (List ℤ)} (u ∷ v ∷ []) (bounds_from b (p ∷ []))
unfolding bounds_from
box_made b p d e = rw (d, e) refl

-- one place after another
pub box_then : (b : List (List ℤ)) (p q : Point) → bounds_from (bounds_from b (p ∷ [])) (q ∷ []) ≡ bounds_from b (p ∷ q ∷ [])
unfolding bounds_from row_from along
box_then b p q = refl

-- the box that holds all is read element by element
pub box_read : (b : List (List ℤ)) {x y z u v w : ℤ}
    → x ≡ get_or (get_or b 0 []) 0 (pos 0) → y ≡ get_or (get_or b 0 []) 1 (pos 0) → z ≡ get_or (get_or b 0 []) 2 (pos 0)
    → u ≡ get_or (get_or b 1 []) 0 (pos 0) → v ≡ get_or (get_or b 1 []) 1 (pos 0) → w ≡ get_or (get_or b 1 []) 2 (pos 0)
    → ◌≡◌ {A = List (List ℤ)} ((x ∷ y ∷ z ∷ []) ∷ (u ∷ v ∷ w ∷ []) ∷ []) (bounds_from b [])
unfolding bounds_from row_from along
box_read b d e f g h i = rw (d, e, f, g, h, i) refl
