-- Laws of `pick`, of tests joined by "and" and "or", of `same`, and of numbers in bytes. Assumes nothing.
use Prim.Native.Nat.{ℕ, ◌+◌, ◌*◌, ◌/◌, ◌%◌, ◌-◌, ◌≤◌, ◌<◌}
use mathlib.Core.Path.{◌≡◌, refl, ap₂}
use mathlib.Core.List.{List, [], ◌∷◌, ◌++◌}
use mathlib.Core.Bool.{Bool, true, false, ◌&&◌, ◌||◌}
use native.Mathlib.Omega.{arith}
use lib.Dec.{eqb, ltb}
use borrow.Author.Tests.{eqb-true, eq-eqb, ltb-true, ltb-false, lt-ltb, le-ltb}
use Rattle.format.specs.Bytes.{pick, le16, le32, be16, be32, to_le16, to_le32, to_be16, to_be32, widened, same}

-- ---- `pick` and tests

-- what holds of both ways holds of the one picked
pub pick_case {ℓ} : {X : Type ℓ} (P : X → Type 0) (b : Bool) (x y : X) → (b ≡ true → P x) → (b ≡ false → P y) → P (pick b x y)
unfolding pick
pick_case P true x y f g = f refl
pick_case P false x y f g = g refl

pub pick_true {ℓ} : {X : Type ℓ} {b : Bool} (x y : X) → b ≡ true → pick b x y ≡ x
unfolding pick
pick_true x y e = rw e

pub pick_false {ℓ} : {X : Type ℓ} {b : Bool} (x y : X) → b ≡ false → pick b x y ≡ y
unfolding pick
pick_false x y e = rw e

-- where the first is not z, and z is picked, it is the second
pub second_picked {ℓ} : {X : Type ℓ} {b : Bool} {x y z : X} → (x ≡ z → ⊥) → pick b x y ≡ z → (b ≡ false) × (y ≡ z)
unfolding pick
second_picked {b = true} h e = absurd (h e)
second_picked {b = false} h e = (refl, e)

pub both : (a b : Bool) → (a && b) ≡ true → (a ≡ true) × (b ≡ true)
both true true e = (refl, refl)
both true false e = (refl, e)
both false b e = (e, absurd (let z : ◌≡◌ {A = ℕ} 0 1 = cc in omega arith))

pub neither : (a b : Bool) → (a || b) ≡ false → (a ≡ false) × (b ≡ false)
neither true b e = absurd (let z : ◌≡◌ {A = ℕ} 0 1 = cc in omega arith)
neither false b e = (refl, e)

pub and_true : {a b : Bool} → a ≡ true → b ≡ true → (a && b) ≡ true
and_true p q = rw (p, q)

pub or_false : {a b : Bool} → a ≡ false → b ≡ false → (a || b) ≡ false
or_false p q = rw (p, q)

-- one number is less than another, or it is not
pub less_or_not : (a b : ℕ) {P : Type 0} → (a < b → P) → (b ≤ a → P) → P
less_or_not a b {P} f g = go (ltb a b) refl
  where
    go : (t : Bool) → ltb a b ≡ t → P
    go true e = f (ltb-true a b e)
    go false e = g (ltb-false a b e)

-- ---- `same`

pub same_true : (s t : List ℕ) → same s t ≡ true → s ≡ t
unfolding same pick
same_true [] [] e = refl
same_true [] (y ∷ t) e = cc
same_true (x ∷ s) [] e = cc
same_true (x ∷ s) (y ∷ t) e = go (eqb x y) refl e (same_true s t)
  where
    go : (b : Bool) → eqb x y ≡ b → pick b (same s t) false ≡ true → (same s t ≡ true → s ≡ t) → x ∷ s ≡ y ∷ t
    go true q e h = ap₂ (λ (u : ℕ) (v : List ℕ). u ∷ v) (eqb-true x y q) (h e)
    go false q e h = cc

pub same_refl : (s : List ℕ) → same s s ≡ true
unfolding same pick
same_refl [] = refl
same_refl (x ∷ s) = rw (eq-eqb x x refl) (same_refl s)

-- ---- numbers in bytes: what is written is read back

pub le16_to : (n : ℕ) (rest : List ℕ) → n < 65536 → le16 (to_le16 n ++ rest) ≡ n
unfolding le16 to_le16
le16_to n rest h = omega arith

pub le32_to : (n : ℕ) (rest : List ℕ) → n < 4294967296 → le32 (to_le32 n ++ rest) ≡ n
unfolding le32 to_le32
le32_to n rest h = let z : n / 16777216 % 256 ≡ n / 16777216 = omega arith in rw z (omega arith)

pub be16_to : (n : ℕ) (rest : List ℕ) → n < 65536 → be16 (to_be16 n ++ rest) ≡ n
unfolding be16 to_be16
be16_to n rest h = omega arith

pub be32_to : (n : ℕ) (rest : List ℕ) → n < 4294967296 → be32 (to_be32 n ++ rest) ≡ n
unfolding be32 to_be32
be32_to n rest h = let z : n / 16777216 % 256 ≡ n / 16777216 = omega arith in rw z (omega arith)

-- an i16's bit pattern, of a number that fits one
pub widened_low : (n : ℕ) (rest : List ℕ) → n ≤ 32767 → widened (le16 (to_le16 n ++ rest)) ≡ n
unfolding widened pick
widened_low n rest h = let e = le16_to n rest (omega arith) in simp (e, lt-ltb n 32768 (omega arith))

pub widened_high : (n : ℕ) (rest : List ℕ) → 4294934528 ≤ n → n < 4294967296 → widened (le16 (to_le16 n ++ rest)) ≡ n
unfolding widened pick le16 to_le16
widened_high n rest h k =
    let e : n % 256 + n / 256 % 256 * 256 ≡ n - 4294901760 = omega arith in
    let z : n - 4294901760 + 4294901760 ≡ n = omega arith in
    let f : 32768 ≤ n - 4294901760 = omega arith in
    simp (e, le-ltb (n - 4294901760) 32768 f, z)
