-- Names compared eight bytes at a time. Assumes nothing.
use Prim.Native.Nat.{ℕ, zero, suc, ◌+◌, ◌*◌, ◌/◌, ◌%◌, ◌≤◌, ◌<◌, ◌^◌}
use mathlib.Core.Path.{◌≡◌, refl, sym, ap, ◌∙◌}
use mathlib.Core.List.{List, [], ◌∷◌}
use mathlib.Core.Bool.{Bool, true, false}
use native.Mathlib.Omega.{arith}
use lib.ListN.{length, get_or, take, drop}
use lib.Seq.{take-add, take-take, take-length}
use lib.Dec.{eqb}
use lib.Arith.{mod-mul}
use borrow.Author.Tests.{eqb-true, eqb-false}
use Rattle.format.specs.Bytes.{same}
use Rattle.format.specs.Reach.{begins}
use Rattle.format.proofs.Basics.{same_true, same_refl}
use Rattle.number.specs.Four.{to_le64}
use Rattle.wire.proofs.Laws.{same_false}

-- ---- a number of 64 bits is told by its bytes

-- one digit more
more : (c x y : ℕ) → 0 < c → x % c ≡ y % c → x / c % 256 ≡ y / c % 256 → x % (256 * c) ≡ y % (256 * c)
more c x y h d e = mod-mul x (omega arith) h ∙ rw (d, e) (sym (mod-mul y (omega arith) h))

pub le64_tells : (x y : ℕ) → x < 2 ^ 64 → y < 2 ^ 64 → to_le64 x ≡ to_le64 y → x ≡ y
unfolding to_le64
le64_tells x y hx hy e =
    let d : (i : ℕ) → get_or (to_le64 x) i 0 ≡ get_or (to_le64 y) i 0 = λ i. ap (λ (s : List ℕ). get_or s i 0) e in
    let e2 = more 256 x y (omega arith) (d 0) (d 1) in
    let e3 = more 65536 x y (omega arith) e2 (d 2) in
    let e4 = more 16777216 x y (omega arith) e3 (d 3) in
    let e5 = more 4294967296 x y (omega arith) e4 (d 4) in
    let e6 = more 1099511627776 x y (omega arith) e5 (d 5) in
    let e7 = more 281474976710656 x y (omega arith) e6 (d 6) in
    all x y hx hy (more 72057594037927936 x y (omega arith) e7 (d 7))
  where
    all : (x y : ℕ) → x < 2 ^ 64 → y < 2 ^ 64 → x % 18446744073709551616 ≡ y % 18446744073709551616 → x ≡ y
    all x y hx hy e = omega arith

-- the test of two numbers is that of their bytes
pub words_same : (x y : ℕ) (s t : List ℕ) → x < 2 ^ 64 → y < 2 ^ 64 → to_le64 x ≡ s → to_le64 y ≡ t → eqb x y ≡ same s t
words_same x y s t hx hy d e = go (eqb x y) refl
  where
    go : (b : Bool) → eqb x y ≡ b → b ≡ same s t
    go true q = rw (sym d, sym e, eqb-true x y q) (sym (same_refl (to_le64 y)))
    go false q = sym (same_false s t λ z. eqb-false x y q (le64_tells x y hx hy (d ∙ z ∙ sym e)))

-- ---- the front of a list, word by word

abbrev pub word : ℕ → List ℕ → List ℕ
word i s = take 8 (drop i s)

word_front : (i n : ℕ) (s : List ℕ) → i + 8 ≤ n → word i (take n s) ≡ word i s
word_front zero n s h = take-take 8 n s (omega arith)
word_front (suc i) zero s h = absurd (omega arith)
word_front (suc i) (suc n) [] h = refl
word_front (suc i) (suc n) (x ∷ s) h = word_front i n s (omega arith)

module _ (s name : List ℕ) where
  -- a word of the name that s does not have
  pub word_other : (i : ℕ) → i + 8 ≤ length name → same (word i s) (word i name) ≡ false → begins name s ≡ false
  unfolding begins
  word_other i h e =
      same_false (take (length name) s) name λ q.
      (let d : word i name ≡ word i s = sym (ap (word i) q) ∙ word_front i (length name) s h in
      let f : true ≡ false = sym (same_refl (word i s)) ∙ ap (same (word i s)) (sym d) ∙ e in
      let z : ◌≡◌ {A = ℕ} 0 1 = cc in
      omega arith)

  pub words_more : (i : ℕ) → take i s ≡ take i name → same (word i s) (word i name) ≡ true → take (i + 8) s ≡ take (i + 8) name
  words_more i e d = take-add i 8 s ∙ rw (e, same_true _ _ d) (sym (take-add i 8 name))

  -- the last word, where all before it are the same
  pub words_all : (i last : ℕ) → last ≤ i → last + 8 ≡ length name → take i s ≡ take i name → same (word last s) (word last name) ≡ begins name s
  unfolding begins
  words_all i last h n e = go (same (word last s) (word last name)) refl
    where
      go : (b : Bool) → same (word last s) (word last name) ≡ b → b ≡ begins name s
      go true q =
          let a = sym (take-take last i s h) ∙ ap (take last) e ∙ take-take last i name h in
          let f : take (length name) s ≡ name = rw n at (words_more last a q) ∙ take-length name in
          rw f (sym (same_refl name))
      go false q = sym (word_other last (omega arith) q)
