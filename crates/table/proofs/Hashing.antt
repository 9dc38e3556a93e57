-- A product of two numbers of 32 bits, and a turn of `hash_from`. Assumes nothing.
use Prim.Native.Nat.{ℕ, zero, suc, ◌+◌, ◌-◌, ◌*◌, ◌/◌, ◌≤◌, ◌<◌}
use mathlib.Core.Path.{◌≡◌, refl, ◌∙◌}
use mathlib.Core.List.{List, [], ◌∷◌}
use native.Mathlib.Omega.{arith}
use native.Mathlib.Nat.{add-zero, mul-le-mul_left}
use lib.ListN.{length, take, drop, get_or, length-drop}
use Rattle.std.specs.Simd.{first_chunks}
use lib.Seq.{drop-drop, get_or-drop}
use Rattle.format.specs.Bytes.{le32}
use Rattle.table.specs.Hash.{mix_of, hash_from}

pub product_fits : (a k : ℕ) → a < 4294967296 → k < 4294967296 → a * k < 18446744073709551616
product_fits a k ha hk = let x : a * k ≤ a * 4294967296 = mul-le-mul_left a (omega arith) in omega arith

one : (k h : ℕ) (s : List ℕ) → 0 < length s → length s < 4 → hash_from k h s ≡ hash_from k (mix_of k h (get_or s 0 0)) (drop 1 s)
unfolding hash_from
one k h [] l m = absurd (omega arith)
one k h (a ∷ []) l m = refl
one k h (a ∷ b ∷ []) l m = refl
one k h (a ∷ b ∷ c ∷ []) l m = refl
one k h (a ∷ b ∷ c ∷ d ∷ s) l m = absurd (omega arith)

pub chunk_at : (s : List ℕ) (k i : ℕ) (d : List ℕ) → i < k → get_or (first_chunks 4 k s) i d ≡ take 4 (drop (4 * i) s)
chunk_at s zero i d l = absurd (omega arith)
chunk_at s (suc k) zero d l = refl
chunk_at s (suc k) (suc i) d l = chunk_at (drop 4 s) k i d (omega arith) ∙ (let e : 4 + 4 * i ≡ 4 * suc i = omega arith in rw (drop-drop (4 * i) 4 s, e))

pub chunk_step : (k h : ℕ) (w s : List ℕ) → w ≡ take 4 s → 4 ≤ length s → hash_from k h s ≡ hash_from k (mix_of k h (le32 w)) (drop 4 s)
unfolding hash_from le32
chunk_step k h w [] e l = absurd (omega arith)
chunk_step k h w (a ∷ []) e l = absurd (omega arith)
chunk_step k h w (a ∷ b ∷ []) e l = absurd (omega arith)
chunk_step k h w (a ∷ b ∷ c ∷ []) e l = absurd (omega arith)
chunk_step k h w (a ∷ b ∷ c ∷ d ∷ s) e l = rw e

module _ (k h : ℕ) (s : List ℕ) (i : ℕ) where
  pub hash_word : (ws : List (List ℕ)) → ws ≡ first_chunks 4 (length s / 4) s → i < length s / 4
      → hash_from k h (drop (4 * i) s) ≡ hash_from k (mix_of k h (le32 (get_or ws i []))) (drop (4 * (i + 1)) s)
  hash_word ws e l =
      let d : 4 * i + 4 ≡ 4 * (i + 1) = omega arith in
      chunk_step k h (get_or ws i []) (drop (4 * i) s) (rw e (chunk_at s (length s / 4) i [] l)) (simp length-drop (omega arith)) ∙ rw (drop-drop 4 (4 * i) s, d)

  pub hash_one : i < length s → length s - i < 4 → hash_from k h (drop i s) ≡ hash_from k (mix_of k h (get_or s i 0)) (drop (i + 1) s)
  hash_one l m = one k h (drop i s) (simp length-drop (omega arith)) (simp length-drop m) ∙ rw (drop-drop 1 i s, get_or-drop i s 0 0, add-zero)
