-- A number or nothing; what one byte more does to the number that digits spell; how large the number of a few digits is. Assumes nothing.
use Rattle.std.specs.Prelude.{Some, None}
use Prim.Native.Nat.{ℕ, zero, suc, ◌+◌, ◌-◌, ◌*◌, ◌≤◌, ◌<◌}
use mathlib.Core.Path.{◌≡◌, refl, ap, ◌∙◌}
use mathlib.Core.List.{List, [], ◌∷◌}
use mathlib.Core.Bool.{Bool, true, false, ◌&&◌}
use native.Mathlib.Omega.{arith}
use lib.ListN.{length, get_or, take, drop}
use lib.Seq.{drop-cons}
use lib.Dec.{leb}
use borrow.Author.Tests.{le-leb, lt-leb, leb-true}
use Rattle.format.specs.Bytes.{pick}
use Rattle.format.specs.Times.{is_digit, all_digits, decimal_from, decimal}
use Rattle.format.proofs.Basics.{both}
use Rattle.seconds.specs.Reading.{spelled, number_from}

-- ---- a number or nothing: what an answer says of the test

pub told : (b : Bool) (v n : ℕ) → Some n ≡ spelled b v → (b ≡ true) × (n ≡ v)
unfolding pick
told true v n e = (refl, cc)
told false v n e = absurd (let z : ◌≡◌ {A = ℕ} 0 1 = cc in omega arith)

pub untold : (b : Bool) (v : ℕ) → None ≡ spelled b v → b ≡ false
unfolding pick
untold true v e = absurd (let z : ◌≡◌ {A = ℕ} 0 1 = cc in omega arith)
untold false v e = refl

pub and_no : (a : Bool) → (a && false) ≡ false
and_no true = refl
and_no false = refl

-- ---- one byte more

grows : (s : List ℕ) (n : ℕ) → n ≤ decimal_from n s
unfolding decimal_from
grows [] n = omega arith
grows (b ∷ s) n = let h = grows s (n * 10 + (b - 48)) in omega arith

module _ (n : ℕ) (s : List ℕ) (i : ℕ) (h : i < length s) where
  next : number_from n (drop i s)
      ≡ spelled ((is_digit (get_or s i 0) && all_digits (drop (suc i) s)) && leb (decimal_from (n * 10 + (get_or s i 0 - 48)) (drop (suc i) s)) 4294967295)
      (decimal_from (n * 10 + (get_or s i 0 - 48)) (drop (suc i) s))
  unfolding number_from all_digits decimal_from
  next = ap (number_from n) (drop-cons s i 0 h)

  pub below : get_or s i 0 < 48 → number_from n (drop i s) ≡ None
  unfolding is_digit pick
  below l = next ∙ simp (lt-leb 48 (get_or s i 0) l)

  pub above : 57 < get_or s i 0 → number_from n (drop i s) ≡ None
  unfolding is_digit pick
  above g = next ∙ simp (lt-leb (get_or s i 0) 57 g, and_no)

  module _ (l : 48 ≤ get_or s i 0) (g : get_or s i 0 ≤ 57) where
    pub large : 4294967295 < n * 10 + (get_or s i 0 - 48) → number_from n (drop i s) ≡ None
    unfolding pick
    large x =
        let z = grows (drop (suc i) s) (n * 10 + (get_or s i 0 - 48)) in
        next ∙ simp (lt-leb (decimal_from (n * 10 + (get_or s i 0 - 48)) (drop (suc i) s)) 4294967295 (omega arith), and_no)

    pub on : number_from n (drop i s) ≡ number_from (n * 10 + (get_or s i 0 - 48)) (drop (suc i) s)
    unfolding number_from is_digit
    on = next ∙ simp (le-leb 48 (get_or s i 0) l, le-leb (get_or s i 0) 57 g)

-- ---- a few digits: the largest number that w digits make of n

abbrev pub largest : ℕ → ℕ → ℕ
largest zero n = n
largest (suc w) n = largest w (n * 10 + 9)

larger : (w n : ℕ) → n ≤ largest w n
larger zero n = omega arith
larger (suc w) n = let h = larger w (n * 10 + 9) in omega arith

few : (w : ℕ) (l : List ℕ) (n m : ℕ) → n ≤ m → all_digits (take w l) ≡ true → decimal_from n (take w l) ≤ largest w m
unfolding all_digits decimal_from is_digit
few zero l n m h e = h
few (suc w) [] n m h e = let z = larger w (m * 10 + 9) in omega arith
few (suc w) (b ∷ l) n m h e =
    let p = both (leb 48 b && leb b 57) (all_digits (take w l)) e in
    let q = both (leb 48 b) (leb b 57) p.0 in
    let u : b ≤ 57 = leb-true b 57 q.1 in
    few w l (n * 10 + (b - 48)) (m * 10 + 9) (omega arith) p.1

-- n is the number that a field of w bytes spells
pub record Said (w : ℕ) (l : List ℕ) (n : ℕ) : Type 0 where
  pub digits : all_digits (take w l) ≡ true
  pub is : n ≡ decimal (take w l)

-- a field of w bytes, where w digits make no number past the bound
module _ (w : ℕ) (fits : largest w 0 ≤ 4294967295) (l : List ℕ) where
  field_is : number_from 0 (take w l) ≡ spelled (all_digits (take w l)) (decimal (take w l))
  unfolding number_from decimal
  field_is = go (all_digits (take w l)) refl
    where
      go : (b : Bool) → all_digits (take w l) ≡ b → spelled (b && leb (decimal_from 0 (take w l)) 4294967295) (decimal_from 0 (take w l)) ≡ spelled b
          (decimal_from 0 (take w l))
      go true e =
          let z = few w l 0 0 (omega arith) e in
          simp (le-leb (decimal_from 0 (take w l)) 4294967295 (omega arith))
      go false e = refl

  pub field_told : (n : ℕ) → Some n ≡ number_from 0 (take w l) → Said w l n
  field_told n e =
      let t = told (all_digits (take w l)) (decimal (take w l)) n (e ∙ field_is) in
      record { digits = t.0; is = t.1 }

  pub field_untold : None ≡ number_from 0 (take w l) → all_digits (take w l) ≡ false
  field_untold e = untold (all_digits (take w l)) (decimal (take w l)) (e ∙ field_is)
