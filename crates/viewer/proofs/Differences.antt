-- A difference of two i32 as the machine has it, and the tests for one that is too far. Assumes nothing.
use Prim.Native.Nat.{ℕ, zero, suc, ◌-◌, ◌≤◌, ◌<◌, ◌^◌}
use mathlib.Core.Path.{◌≡◌, refl, sym, ap, ap₂, ◌∙◌, subst}
use mathlib.Core.List.{[], ◌∷◌}
use mathlib.Core.Bool.{Bool, true, false, cond, ◌||◌}
use native.Mathlib.Omega.{arith}
use borrow.Author.Tests.{ltb-true, ltb-false, lt-ltb, le-ltb}
use lib.Dec.{T, ltb}
use lib.IntN.{ℤ, pos, negsuc, ◌-ℤ◌, sub_ℕ, nat_abs}
use lib.Signed.{mag, lt_z}
use lib.Ieee.{Float, binary32, in_float}
use mir.Syntax.{w32, w64}
use mir.Val.{SFits, to_z, of_z}
use mir.ValLaws.{to_z-of_z}
use Rattle.format.specs.Viewer.{farthest, too_far, number_of}
use Rattle.format.proofs.ViewerLaws.{in_float_lem}
use Rattle.reach.proofs.Numbers.{read}

-- ---- it fits 64 bits

pub wider : {z : ℤ} → SFits w32 z → SFits w64 z
wider h = record { sfits = omega (arith, h.sfits) }

apart : (x y : ℕ) → x ≤ 2 ^ 31 → y ≤ 2 ^ 31 → mag (sub_ℕ x y) < 2 ^ 63
apart x y hx hy = go (ltb x y)
  where
    go : (t : Bool) → mag (cond t (negsuc (y - suc x)) (pos (x - y))) < 2 ^ 63
    go true = omega arith
    go false = omega arith

sub_mag : (a b : ℤ) → mag a < 2 ^ 31 → mag b < 2 ^ 31 → mag (a -ℤ b) < 2 ^ 63
sub_mag (pos a) (pos zero) ha hb = omega arith
sub_mag (pos a) (pos (suc b)) ha hb = apart a (suc b) (omega arith) (omega arith)
sub_mag (pos a) (negsuc b) ha hb = omega arith
sub_mag (negsuc a) (pos zero) ha hb = apart 0 (suc a) (omega arith) (omega arith)
sub_mag (negsuc a) (pos (suc b)) ha hb = omega arith
sub_mag (negsuc a) (negsuc b) ha hb = apart (suc b) (suc a) (omega arith) (omega arith)

-- a number of 32 bits as one of 64
wide : (z : ℤ) → SFits w32 z → to_z w64 (of_z w64 (to_z w32 (of_z w32 z))) ≡ z
wide z h = rw (to_z-of_z w32 z h) (to_z-of_z w64 z (wider h))

pub cast_fits : (z : ℤ) → SFits w32 z → SFits w64 (to_z w32 (of_z w32 z))
cast_fits z h = subst (SFits w64) (sym (to_z-of_z w32 z h)) (wider h)

module _ (a o : ℤ) (ha : SFits w32 a) (ho : SFits w32 o) where
  same : to_z w64 (of_z w64 (to_z w32 (of_z w32 a))) -ℤ to_z w64 (of_z w64 (to_z w32 (of_z w32 o))) ≡ a -ℤ o
  same = ap₂ ◌-ℤ◌ (wide a ha) (wide o ho)

  fits : SFits w64 (a -ℤ o)
  fits = record { sfits = sub_mag a o ha.sfits ho.sfits }

  pub less_fits : SFits w64 (to_z w64 (of_z w64 (to_z w32 (of_z w32 a))) -ℤ to_z w64 (of_z w64 (to_z w32 (of_z w32 o))))
  less_fits = subst (SFits w64) (sym same) fits

  pub less_is : to_z w64 (of_z w64 (to_z w64 (of_z w64 (to_z w32 (of_z w32 a))) -ℤ to_z w64 (of_z w64 (to_z w32 (of_z w32 o))))) ≡ a -ℤ o
  less_is = rw same (to_z-of_z w64 (a -ℤ o) fits)

  -- what a call is passed of both, by their bits
  pub passed : to_z w32 (of_z w32 a) -ℤ to_z w32 (of_z w32 o) ≡ a -ℤ o
  passed = ap₂ ◌-ℤ◌ (to_z-of_z w32 a ha) (to_z-of_z w32 o ho)

-- the same of the numbers of two places
pub passed_near : (a o : ℤ) → mag a < 2 ^ 31 → mag o < 2 ^ 31 → nat_abs (a -ℤ o) ≤ farthest → nat_abs (to_z w32 (of_z w32 a) -ℤ to_z w32 (of_z w32 o)) ≤ farthest
passed_near a o ha ho h = rw (read a ha, read o ho) h

pub came_far : (a o : ℤ) (r : Bool) → mag a < 2 ^ 31 → mag o < 2 ^ 31 → r ≡ ltb farthest (nat_abs (to_z w32 (of_z w32 a) -ℤ to_z w32 (of_z w32 o)))
    → r ≡ ltb farthest (nat_abs (a -ℤ o))
came_far a o r ha ho e = rw (read a ha, read o ho) at e

pub came_number : (a o : ℤ) (r : Float) → mag a < 2 ^ 31 → mag o < 2 ^ 31 → r ≡ number_of (to_z w32 (of_z w32 a) -ℤ to_z w32 (of_z w32 o)) → r ≡ number_of (a -ℤ o)
came_number a o r ha ho e = rw (read a ha, read o ho) at e

-- ---- which of three is too far

module _ (a b c : ℤ) where
  pub far_first : ltb farthest (nat_abs a) ≡ true → true ≡ too_far (a ∷ b ∷ c ∷ [])
  unfolding too_far
  far_first e = rw e refl

  pub far_second : ltb farthest (nat_abs a) ≡ false → ltb farthest (nat_abs b) ≡ true → true ≡ too_far (a ∷ b ∷ c ∷ [])
  unfolding too_far
  far_second e f = rw (e, f) refl

  pub far_third : ltb farthest (nat_abs a) ≡ false → ltb farthest (nat_abs b) ≡ false → (r : Bool) → r ≡ ltb farthest (nat_abs c) → r ≡ too_far (a ∷ b ∷ c ∷ [])
  unfolding too_far
  far_third e f r g = rw (e, f) (go r (ltb farthest (nat_abs c)) g)
    where
      go : (r t : Bool) → r ≡ t → r ≡ (t || false)
      go r true g = g
      go r false g = g

-- ---- d is what the machine holds, whose value is z

above : (z : ℤ) → lt_z (pos 16777216) z ≡ true → farthest < nat_abs z
above (pos n) e = ltb-true _ _ e
above (negsuc n) e = absurd (let k : ◌≡◌ {A = ℕ} 0 1 = cc in omega arith)

within : (z : ℤ) → lt_z (pos 16777216) z ≡ false → lt_z z (negsuc 16777215) ≡ ltb farthest (nat_abs z)
within (pos n) e = sym (le-ltb farthest n (ltb-false 16777216 n e))
within (negsuc n) e = go (ltb 16777215 n) refl
  where
    go : (t : Bool) → ltb 16777215 n ≡ t → t ≡ ltb farthest (suc n)
    go true k = sym (lt-ltb farthest (suc n) (omega (arith, ltb-true 16777215 n k)))
    go false k = sym (le-ltb farthest (suc n) (omega (arith, ltb-false 16777215 n k)))

module _ (z d : ℤ) (fit : mag d < 2 ^ 63) (is : d ≡ z) where
  reads : to_z w64 (of_z w64 d) ≡ z
  reads = to_z-of_z w64 d (record { sfits = fit }) ∙ is

  pub far_above : lt_z (pos 16777216) (to_z w64 (of_z w64 d)) ≡ true → true ≡ ltb farthest (nat_abs z)
  far_above e = sym (lt-ltb farthest (nat_abs z) (above z (rw reads at e)))

  pub far_below : lt_z (pos 16777216) (to_z w64 (of_z w64 d)) ≡ false → lt_z (to_z w64 (of_z w64 d)) (negsuc 16777215) ≡ ltb farthest (nat_abs z)
  far_below e = rw reads (within z (rw reads at e))

  -- nothing is lost
  pub float_fits : nat_abs z ≤ farthest → T (in_float binary32 (to_z w64 (of_z w64 d)))
  float_fits h = rw reads (in_float_lem z h)

  pub float_is : number_of (to_z w64 (of_z w64 d)) ≡ number_of z
  float_is = ap number_of reads
