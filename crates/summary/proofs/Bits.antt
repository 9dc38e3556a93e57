-- Bits of a word: of the operations, and that a word is what its bits are. Assumes nothing.
use Rattle.std.proofs.Common.{◌≡◌, ℕ, zero, suc, ◌+◌, ◌-◌, ◌*◌, ◌/◌, ◌%◌, ◌^◌, ◌<◌, ◌≤◌, sym, refl, ap, ◌∙◌, subst, ap₂, mod-lt, mod-eq_of_lt, add-one, one-add, arith, lit<, pow_pos}
use native.Mathlib.Nat.{mod-one, mul-mod_left}
use lib.Pow.{shl-shr, field, mod-mod-pow, mod-pow-add, recompose, ones_split, high, ones_lt}
use lib.Bits.{bit_and, bit_or, bit_xor, and_mask, or_shr, or_mod, xor_shr, xor_mod, xor_zero_r}
use lib.Count.{ones, ones_in, ones_cat}
use Rattle.format.specs.Summary.{bit}
use Rattle.format.proofs.SummaryWords.{bit_two, bit_past, bit_shr}
use Rattle.summary.specs.Bits.{sum_to, Field}

mod_bit : (w j i : ℕ) → bit (w % 2 ^ (suc j + i)) i ≡ bit w i
unfolding bit
mod_bit w j i =
    ap (λ (x : ℕ). x % 2) (field w (suc j) i)
    ∙ ap (λ (n : ℕ). w / 2 ^ i % 2 ^ n % 2) (sym (add-one j))
    ∙ mod-mod-pow (w / 2 ^ i) j 1

pub bit_mod : (w k i : ℕ) → i < k → bit (w % 2 ^ k) i ≡ bit w i
bit_mod w k i h =
    let e : k ≡ suc (k - suc i) + i = omega arith in
    ap (λ (n : ℕ). bit (w % 2 ^ n) i) e ∙ mod_bit w (k - suc i) i

pub bit_mod_past : (w k i : ℕ) → k ≤ i → bit (w % 2 ^ k) i ≡ 0
bit_mod_past w k i h = bit_past (w % 2 ^ k) k i (mod-lt w (pow_pos k)) h

pub bit_shl : (x s i : ℕ) → s + i < 64 → bit (x * 2 ^ s % 2 ^ 64) (s + i) ≡ bit x i
bit_shl x s i h = bit_mod (x * 2 ^ s) 64 (s + i) h ∙ sym (bit_shr (x * 2 ^ s) s i) ∙ ap (λ (y : ℕ). bit y i) (shl-shr x s)

pub bit_shl_below : (x s i : ℕ) → i < s → s ≤ 64 → bit (x * 2 ^ s % 2 ^ 64) i ≡ 0
bit_shl_below x s i h g =
    bit_mod (x * 2 ^ s) 64 i (omega arith)
    ∙ sym (bit_mod (x * 2 ^ s) s i h)
    ∙ ap (λ (y : ℕ). bit y i) (mul-mod_left x (2 ^ s))
    ∙ bit_past 0 0 i (lit< tt) (omega arith)

pub bit_xor_lem : (a b i : ℕ) → bit (bit_xor a b) i ≡ bit_xor (bit a i) (bit b i)
unfolding bit
bit_xor_lem a b i = ap (λ (x : ℕ). x % 2) (xor_shr a b i) ∙ xor_mod (a / 2 ^ i) (b / 2 ^ i) 1

pub bit_or_lem : (a b i : ℕ) → bit (bit_or a b) i ≡ bit_or (bit a i) (bit b i)
unfolding bit
bit_or_lem a b i = ap (λ (x : ℕ). x % 2) (or_shr a b i) ∙ or_mod (a / 2 ^ i) (b / 2 ^ i) 1

xor_xor : (x y : ℕ) → x < 2 → y < 2 → bit_xor x (bit_xor x y) ≡ y
xor_xor zero zero h g = refl
xor_xor zero (suc zero) h g = refl
xor_xor (suc zero) zero h g = refl
xor_xor (suc zero) (suc zero) h g = refl
xor_xor zero (suc (suc y)) h g = absurd (omega arith)
xor_xor (suc zero) (suc (suc y)) h g = absurd (omega arith)
xor_xor (suc (suc x)) y h g = absurd (omega arith)

-- ---- the operations of the code

pub low_ones : (n : ℕ) → n ≤ 64 → (2 ^ 64 - 1) / 2 ^ (64 - n) ≡ 2 ^ n - 1
low_ones n h =
    let e : 64 ≡ n + (64 - n) = omega arith in
    ap (λ (k : ℕ). (2 ^ k - 1) / 2 ^ (64 - n)) e
    ∙ ap (λ (x : ℕ). x / 2 ^ (64 - n)) (ones_split n (64 - n))
    ∙ high (2 ^ n - 1) (64 - n) (ones_lt (64 - n))

module _ (w s size v m : ℕ) (e : m ≡ 2 ^ size - 1) (pos : 0 < size) (fits : s + size ≤ 64) where
  -- the bits that change, at their places
  abbrev changed : ℕ
  changed = bit_and (bit_xor (w / 2 ^ s) v) m * 2 ^ s % 2 ^ 64

  masked : bit_and (bit_xor (w / 2 ^ s) v) m ≡ bit_xor (w / 2 ^ s) v % 2 ^ size
  masked = ap (bit_and (bit_xor (w / 2 ^ s) v)) e ∙ and_mask (bit_xor (w / 2 ^ s) v) size

  at_changed : (i : ℕ) → s + i < 64 → bit changed (s + i) ≡ bit (bit_xor (w / 2 ^ s) v % 2 ^ size) i
  at_changed i h = bit_shl (bit_and (bit_xor (w / 2 ^ s) v) m) s i h ∙ ap (λ (x : ℕ). bit x i) masked

  kept : (i : ℕ) → bit changed i ≡ 0 → bit (bit_xor w changed) i ≡ bit w i
  kept i z = bit_xor_lem w changed i ∙ ap (bit_xor (bit w i)) z ∙ xor_zero_r (bit w i)

  pub field_put : Field w s size v (bit_xor w (bit_and (bit_xor (w / 2 ^ s) v) m * 2 ^ s % 2 ^ 64))
  field_put =
      record {
        inside = λ i h.
            bit_xor_lem w changed (s + i)
            ∙ ap (bit_xor (bit w (s + i)))
            (at_changed i (omega arith) ∙ bit_mod (bit_xor (w / 2 ^ s) v) size i h ∙ bit_xor_lem (w / 2 ^ s) v i
            ∙ ap (λ (x : ℕ). bit_xor x (bit v i)) (bit_shr w s i))
            ∙ xor_xor (bit w (s + i)) (bit v i) (bit_two w (s + i)) (bit_two v i);
        below = λ i h. kept i (bit_shl_below (bit_and (bit_xor (w / 2 ^ s) v) m) s i h (omega arith));
        above = λ i h g.
            let q : i ≡ s + (i - s) = omega arith in
            kept i (ap (bit changed) q ∙ at_changed (i - s) (omega arith) ∙ bit_mod_past (bit_xor (w / 2 ^ s) v) size (i - s) (omega arith));
      }

-- ---- a word is what its bits are

top_bit : (k x : ℕ) → x < 2 ^ suc k → x ≡ bit x k * 2 ^ k + x % 2 ^ k
unfolding bit
top_bit k x p = sym (recompose 1 k (subst (λ (n : ℕ). x < 2 ^ n) (sym (one-add k)) p))

pub bit_ext : (k a b : ℕ) → a < 2 ^ k → b < 2 ^ k → ((i : ℕ) → i < k → bit a i ≡ bit b i) → a ≡ b
bit_ext zero a b h g f = omega arith
bit_ext (suc k) a b h g f =
    top_bit k a h
    ∙ ap₂ (λ (x y : ℕ). x * 2 ^ k + y) (f k (omega arith))
    (bit_ext k (a % 2 ^ k) (b % 2 ^ k) (mod-lt a (pow_pos k)) (mod-lt b (pow_pos k))
    (λ i p. bit_mod a k i p ∙ f i (omega arith) ∙ sym (bit_mod b k i p)))
    ∙ sym (top_bit k b g)

-- ---- the count of set bits

ones_bit : (b : ℕ) → b < 2 → ones b ≡ b
unfolding ones ones_in
ones_bit zero h = refl
ones_bit (suc zero) h = refl
ones_bit (suc (suc b)) h = absurd (omega arith)

pub ones_below : (w k : ℕ) → ones (w % 2 ^ k) ≡ sum_to (bit w) k
unfolding sum_to bit
ones_below w zero = ap ones (mod-one w) ∙ ones_bit 0 (lit< tt)
ones_below w (suc k) =
    ap (λ (n : ℕ). ones (w % 2 ^ n)) (sym (one-add k))
    ∙ ap ones (mod-pow-add w 1 k)
    ∙ ones_cat k (bit w k) (w % 2 ^ k) (mod-lt w (pow_pos k))
    ∙ ap₂ ◌+◌ (ones_bit (bit w k) (mod-lt (w / 2 ^ k) (lit< tt))) (ones_below w k)
    ∙ omega arith

pub ones_masked : (w k m : ℕ) → m ≡ 2 ^ k - 1 → ones (bit_and w m) ≡ sum_to (bit w) k
ones_masked w k m e = ap (λ (x : ℕ). ones (bit_and w x)) e ∙ ap ones (and_mask w k) ∙ ones_below w k

pub ones_all : (w : ℕ) → w < 2 ^ 64 → ones w ≡ sum_to (bit w) 64
ones_all w h = ap ones (sym (mod-eq_of_lt h)) ∙ ones_below w 64
