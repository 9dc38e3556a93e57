-- How many bytes two numbers of eight bytes have in common, the lowest first, by the trailing zeros of where they differ: a bit that differs
-- ends them, and every bit before it adds at most one. So an eighth of them counts bytes that are the same. Assumes nothing.
use Prim.Native.Nat.{ℕ, zero, suc, ◌+◌, ◌/◌, ◌%◌, ◌≤◌, ◌<◌}
use mathlib.Core.Path.{◌≡◌, refl, ◌∙◌}
use mathlib.Core.List.{List, [], ◌∷◌}
use native.Mathlib.Omega.{arith}
use lib.Bits.{bit_xor, differ, xor_step}
use lib.Count.{count_trailing_zeros, under}
use borrow.Author.Tests.{eq-eqb, ne_eqb}
use Rattle.format.specs.Bytes.{pick}
use Rattle.format.specs.Codes.{common}
use Rattle.format.proofs.Basics.{less_or_not}
use Rattle.number.specs.Four.{to_le64}

eq_case : (x y : ℕ) {P : Type 0} → (x ≡ y → P) → ((x ≡ y → ⊥) → P) → P
eq_case x y f g =
    less_or_not x y (λ h. g (λ e. omega (arith, h, e))) λ h. less_or_not y x (λ k. g (λ e. omega (arith, k, e))) λ k. f (omega (arith, h, k))

-- ---- bits

abbrev zeros : ℕ → ℕ → ℕ → ℕ
zeros k a b = count_trailing_zeros k (bit_xor a b)

two : (x : ℕ) → x < 2 → (y : ℕ) → y < 2 → differ x y < 2
two zero h y k = k
two (suc x) h zero k = h
two (suc zero) h (suc zero) k = omega arith
two (suc zero) h (suc (suc y)) k = absurd (omega (arith, k))
two (suc (suc x)) h (suc y) k = absurd (omega (arith, h))

zeros_step : (k a b : ℕ) → zeros (suc k) a b ≡ under (differ (a % 2) (b % 2)) (zeros k (a / 2) (b / 2))
unfolding count_trailing_zeros
zeros_step k a b =
    let d = two (a % 2) (omega arith) (b % 2) (omega arith) in
    let s = xor_step a b in
    let m : bit_xor a b % 2 ≡ differ (a % 2) (b % 2) = omega (arith, d, s) in
    let h : bit_xor a b / 2 ≡ bit_xor (a / 2) (b / 2) = omega (arith, d, s) in
    rw (m, h)

under_most : (r t : ℕ) → under r t ≤ 1 + t
under_most zero t = omega arith
under_most (suc r) t = omega arith

unlike : (x y t : ℕ) → x < 2 → y < 2 → (x ≡ y → ⊥) → under (differ x y) t ≡ 0
unlike zero zero t h k e = absurd (e refl)
unlike zero (suc y) t h k e = refl
unlike (suc x) zero t h k e = refl
unlike (suc zero) (suc zero) t h k e = absurd (e refl)
unlike (suc zero) (suc (suc y)) t h k e = absurd (omega (arith, k))
unlike (suc (suc x)) (suc y) t h k e = absurd (omega (arith, h))

-- ---- each bit adds at most one

most_1 : (k a b : ℕ) → zeros (suc k) a b ≤ 1 + zeros k (a / 2) (b / 2)
most_1 k a b = rw (zeros_step k a b) (under_most (differ (a % 2) (b % 2)) (zeros k (a / 2) (b / 2)))

most_2 : (k a b : ℕ) → zeros (suc (suc k)) a b ≤ 2 + zeros k (a / 4) (b / 4)
most_2 k a b =
    let x : a / 2 / 2 ≡ a / 4 = omega arith in
    let y : b / 2 / 2 ≡ b / 4 = omega arith in
    let p = rw (x, y) at (most_1 k (a / 2) (b / 2)) in
    omega (arith, most_1 (suc k) a b, p)

most_4 : (k a b : ℕ) → zeros (suc (suc (suc (suc k)))) a b ≤ 4 + zeros k (a / 16) (b / 16)
most_4 k a b =
    let x : a / 4 / 4 ≡ a / 16 = omega arith in
    let y : b / 4 / 4 ≡ b / 16 = omega arith in
    let p = rw (x, y) at (most_2 k (a / 4) (b / 4)) in
    omega (arith, most_2 (suc (suc k)) a b, p)

most_8 : (k a b : ℕ) → zeros (suc (suc (suc (suc (suc (suc (suc (suc k)))))))) a b ≤ 8 + zeros k (a / 256) (b / 256)
most_8 k a b =
    let x : a / 16 / 16 ≡ a / 256 = omega arith in
    let y : b / 16 / 16 ≡ b / 256 = omega arith in
    let p = rw (x, y) at (most_4 k (a / 16) (b / 16)) in
    omega (arith, most_4 (suc (suc (suc (suc k)))) a b, p)

-- ---- a bit that differs ends them

ends_1 : (k a b : ℕ) → (a % 2 ≡ b % 2 → ⊥) → zeros (suc k) a b < 1
ends_1 k a b h = let z = zeros_step k a b ∙ unlike (a % 2) (b % 2) (zeros k (a / 2) (b / 2)) (omega arith) (omega arith) h in omega (arith, z)

ends_2 : (k a b : ℕ) → (a % 4 ≡ b % 4 → ⊥) → zeros (suc (suc k)) a b < 2
ends_2 k a b h =
    eq_case (a % 2) (b % 2)
    (λ e. omega (arith, most_1 (suc k) a b, ends_1 k (a / 2) (b / 2) (λ f. h (omega (arith, e, f)))))
    λ e. omega (arith, ends_1 (suc k) a b e)

ends_4 : (k a b : ℕ) → (a % 16 ≡ b % 16 → ⊥) → zeros (suc (suc (suc (suc k)))) a b < 4
ends_4 k a b h =
    eq_case (a % 4) (b % 4)
    (λ e. omega (arith, most_2 (suc (suc k)) a b, ends_2 k (a / 4) (b / 4) (λ f. h (omega (arith, e, f)))))
    λ e. omega (arith, ends_2 (suc (suc k)) a b e)

ends_8 : (k a b : ℕ) → (a % 256 ≡ b % 256 → ⊥) → zeros (suc (suc (suc (suc (suc (suc (suc (suc k)))))))) a b < 8
ends_8 k a b h =
    eq_case (a % 16) (b % 16)
    (λ e. omega (arith, most_4 (suc (suc (suc (suc k)))) a b, ends_4 k (a / 16) (b / 16) (λ f. h (omega (arith, e, f)))))
    λ e. omega (arith, ends_4 (suc (suc (suc (suc k)))) a b e)

-- ---- bytes

byte : (k a b q r : ℕ) (l m : List ℕ) → a / 256 ≡ q → b / 256 ≡ r → zeros k q r / 8 ≤ common l m
    → zeros (suc (suc (suc (suc (suc (suc (suc (suc k)))))))) a b / 8 ≤ common (a % 256 ∷ l) (b % 256 ∷ m)
unfolding common pick
byte k a b q r l m x y h =
    eq_case (a % 256) (b % 256)
    (λ e. let p = rw (x, y) at (most_8 k a b) in rw (eq-eqb (a % 256) (b % 256) e) (omega (arith, p, h)))
    λ e. rw (ne_eqb (a % 256) (b % 256) e) (omega (arith, ends_8 k a b e))

none : (q r : ℕ) → zeros 0 q r / 8 ≤ common [] []
unfolding count_trailing_zeros common
none q r = omega arith

abbrev rest_7 : ℕ → List ℕ
rest_7 a = a / 72057594037927936 % 256 ∷ []

abbrev rest_6 : ℕ → List ℕ
rest_6 a = a / 281474976710656 % 256 ∷ rest_7 a

abbrev rest_5 : ℕ → List ℕ
rest_5 a = a / 1099511627776 % 256 ∷ rest_6 a

abbrev rest_4 : ℕ → List ℕ
rest_4 a = a / 4294967296 % 256 ∷ rest_5 a

abbrev rest_3 : ℕ → List ℕ
rest_3 a = a / 16777216 % 256 ∷ rest_4 a

abbrev rest_2 : ℕ → List ℕ
rest_2 a = a / 65536 % 256 ∷ rest_3 a

abbrev rest_1 : ℕ → List ℕ
rest_1 a = a / 256 % 256 ∷ rest_2 a

pub eight_tell : (a b : ℕ) → count_trailing_zeros 64 (bit_xor a b) / 8 ≤ common (to_le64 a) (to_le64 b)
unfolding to_le64
eight_tell a b =
    byte 56 a b (a / 256) (b / 256) (rest_1 a) (rest_1 b) refl refl
    (byte 48 (a / 256) (b / 256) (a / 65536) (b / 65536) (rest_2 a) (rest_2 b) (omega arith) (omega arith)
    (byte 40 (a / 65536) (b / 65536) (a / 16777216) (b / 16777216) (rest_3 a) (rest_3 b) (omega arith) (omega arith)
    (byte 32 (a / 16777216) (b / 16777216) (a / 4294967296) (b / 4294967296) (rest_4 a) (rest_4 b) (omega arith) (omega arith)
    (byte 24 (a / 4294967296) (b / 4294967296) (a / 1099511627776) (b / 1099511627776) (rest_5 a) (rest_5 b) (omega arith) (omega arith)
    (byte 16 (a / 1099511627776) (b / 1099511627776) (a / 281474976710656) (b / 281474976710656) (rest_6 a) (rest_6 b) (omega arith) (omega arith)
    (byte 8 (a / 281474976710656) (b / 281474976710656) (a / 72057594037927936) (b / 72057594037927936) (rest_7 a) (rest_7 b) (omega arith) (omega arith)
    (byte 0 (a / 72057594037927936) (b / 72057594037927936) (a / 72057594037927936 / 256) (b / 72057594037927936 / 256) [] [] refl refl
    (none (a / 72057594037927936 / 256) (b / 72057594037927936 / 256)))))))))
