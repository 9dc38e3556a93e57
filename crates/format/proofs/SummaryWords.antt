-- The words of a summary (#109), by their bits: bit i of word j is the mark of record 64 j + i, and the total of word j is the count of the
-- marks before record 64 j. So any words have marks, and those of a summary are the marks it was made of. Assumes nothing.
use mathlib.Core.Path.{◌≡◌, refl, sym, ap, ap₂, ◌∙◌, subst}
use mathlib.Core.Bool.{Bool, true, false}
use mathlib.Core.List.{List, [], ◌∷◌, ◌++◌}
use Prim.Native.Nat.{ℕ, zero, suc, ◌+◌, ◌*◌, ◌/◌, ◌%◌, ◌^◌, ◌≤◌, ◌<◌}
use native.Mathlib.Nat.{div-one, le_of_suc-le-suc, mod-lt, lt_of_lt_of_le, div-eq_of_lt}
use native.Mathlib.Numerals.{one-add}
use native.Mathlib.Omega.{arith}
use lib.Dec.{eqb, lit<}
use lib.Pow.{pow_mono, shr-shr}
use lib.ListN.{length, get_or, take, drop, length-append, get_or-append}
use lib.Seq.{get_or-take, get_or-drop, get_or-append-add, ext_get_or}
use Rattle.format.specs.Summary.{each, one, marked, word_of, words_for, needed, summary, bit, bit_at, marks_of}

-- ---- each

pub length_each {ℓ} : {X : Type ℓ} (n : ℕ) (f : ℕ → X) → length (each n f) ≡ n
unfolding each
length_each zero f = refl
length_each (suc n) f = ap suc (length_each n (λ i. f (suc i)))

pub get_d_each {ℓ} : {X : Type ℓ} (n : ℕ) (f : ℕ → X) (i : ℕ) (d : X) → i < n → get_or (each n f) i d ≡ f i
unfolding each
get_d_each zero f i d h = absurd (omega arith)
get_d_each (suc n) f zero d h = refl
get_d_each (suc n) f (suc i) d h = get_d_each n (λ k. f (suc k)) i d (le_of_suc-le-suc h)

-- ---- bits

pub bit_two : (w i : ℕ) → bit w i < 2
unfolding bit
bit_two w i = mod-lt (w / 2 ^ i) (lit< tt)

-- past a number's digits
pub bit_past : (w k i : ℕ) → w < 2 ^ k → k ≤ i → bit w i ≡ 0
unfolding bit
bit_past w k i h g = ap (λ (x : ℕ). x % 2) (div-eq_of_lt (lt_of_lt_of_le h (pow_mono g)))

pub bit_shr : (w a i : ℕ) → bit (w / 2 ^ a) i ≡ bit w (a + i)
unfolding bit
bit_shr w a i = ap (λ (x : ℕ). x % 2) (shr-shr w a i)

pub bit_first : (w : ℕ) → bit w 0 ≡ w % 2
unfolding bit
bit_first w = ap (λ (x : ℕ). x % 2) (div-one w)

-- bit s of word j
pub at_word_lem : (ws : List ℕ) (j s i : ℕ) → s < 64 → i ≡ 64 * j + s → bit_at ws i ≡ bit (get_or ws j 0) s
unfolding bit_at
at_word_lem ws j s i h e =
    let d : i / 64 ≡ j = omega arith in
    let m : i % 64 ≡ s = omega arith in
    ap₂ (λ (x y : ℕ). bit (get_or ws x 0) y) d m

bit_at_two : (ws : List ℕ) (i : ℕ) → bit_at ws i < 2
unfolding bit_at
bit_at_two ws i = bit_two (get_or ws (i / 64) 0) (i % 64)

-- ---- a word of marks

pub one_two : (b : Bool) → one b < 2
one_two true = lit< tt
one_two false = lit< tt

half : (b : Bool) (x : ℕ) → (one b + 2 * x) / 2 ≡ x
half true x = omega arith
half false x = omega arith

lowest : (b : Bool) (x : ℕ) → (one b + 2 * x) % 2 ≡ one b
lowest true x = omega arith
lowest false x = omega arith

pub word_bit : (l : List Bool) (i : ℕ) → bit (word_of l) i ≡ one (get_or l i false)
unfolding word_of
word_bit [] i = bit_past 0 0 i (lit< tt) (omega arith)
word_bit (b ∷ l) zero = bit_first (one b + 2 * word_of l) ∙ lowest b (word_of l)
word_bit (b ∷ l) (suc i) =
    ap (bit (one b + 2 * word_of l)) (sym (one-add i))
    ∙ sym (bit_shr (one b + 2 * word_of l) 1 i)
    ∙ ap (λ (x : ℕ). bit x i) (half b (word_of l))
    ∙ word_bit l i

-- ---- the marks that words hold

pub is_one : (x : ℕ) → x < 2 → one (eqb x 1) ≡ x
is_one zero h = refl
is_one (suc zero) h = refl
is_one (suc (suc x)) h = absurd (omega arith)

is_mark : (b : Bool) → eqb (one b) 1 ≡ b
is_mark true = refl
is_mark false = refl

pub length_marks_of : (n : ℕ) (ws : List ℕ) → length (marks_of n ws) ≡ n
unfolding marks_of
length_marks_of n ws = length_each n (λ i. eqb (bit_at ws i) 1)

pub mark_of_bit : (n : ℕ) (ws : List ℕ) (i : ℕ) → i < n → one (get_or (marks_of n ws) i false) ≡ bit_at ws i
unfolding marks_of
mark_of_bit n ws i h = ap one (get_d_each n (λ k. eqb (bit_at ws k) 1) i false h) ∙ is_one (bit_at ws i) (bit_at_two ws i)

pub marks_ext : (n : ℕ) (ws : List ℕ) (ms : List Bool) → length ms ≡ n → ((i : ℕ) → i < n → bit_at ws i ≡ one (get_or ms i false)) → marks_of n ws ≡ ms
unfolding marks_of
marks_ext n ws ms e f =
    ext_get_or false (each n (λ i. eqb (bit_at ws i) 1)) ms (length_each n (λ i. eqb (bit_at ws i) 1) ∙ sym e)
    (λ i h.
    let p : i < n = subst (λ (k : ℕ). i < k) (length_each n (λ i. eqb (bit_at ws i) 1)) h in
    get_d_each n (λ k. eqb (bit_at ws k) 1) i false p ∙ ap (λ (x : ℕ). eqb x 1) (f i p) ∙ is_mark (get_or ms i false))

-- ---- the summary

module _ (ms : List Bool) where
  abbrev w : ℕ
  w = words_for (length ms)

  abbrev word : ℕ → ℕ
  word j = word_of (take 64 (drop (64 * j) ms))

  abbrev total : ℕ → ℕ
  total j = marked (take (64 * j) ms)

  pub length_summary : length (summary ms) ≡ needed (length ms)
  unfolding summary
  length_summary = length-append (each w word) (each w total) ∙ ap₂ ◌+◌ (length_each w word) (length_each w total) ∙ omega arith

  pub summary_word : (j : ℕ) → j < words_for (length ms) → get_or (summary ms) j 0 ≡ word_of (take 64 (drop (64 * j) ms))
  unfolding summary
  summary_word j h =
      get_or-append (each w word) (each w total) 0 j (subst (λ (k : ℕ). j < k) (sym (length_each w word)) h) ∙ get_d_each w word j 0 h

  pub summary_total : (j : ℕ) → j < words_for (length ms) → get_or (summary ms) (words_for (length ms) + j) 0 ≡ marked (take (64 * j) ms)
  unfolding summary
  summary_total j h =
      ap (λ (k : ℕ). get_or (summary ms) (k + j) 0) (sym (length_each w word))
      ∙ get_or-append-add (each w word) (each w total) j 0
      ∙ get_d_each w total j 0 h

  -- the bit of a record, of the word that holds it
  pub summary_bit : (j i : ℕ) → i < 64 → bit (word_of (take 64 (drop (64 * j) ms))) i ≡ one (get_or ms (64 * j + i) false)
  summary_bit j i h = word_bit (take 64 (drop (64 * j) ms)) i ∙ ap one (get_or-take 64 (drop (64 * j) ms) i false h ∙ get_or-drop (64 * j) ms i false)

  -- at the front of other words
  pub summary_front : (rest : List ℕ) (j : ℕ) → j < needed (length ms) → get_or (summary ms ++ rest) j 0 ≡ get_or (summary ms) j 0
  summary_front rest j h = get_or-append (summary ms) rest 0 j (subst (λ (k : ℕ). j < k) (sym length_summary) h)

  -- the words hold the marks
  pub summary_marks : (rest : List ℕ) → marks_of (length ms) (summary ms ++ rest) ≡ ms
  summary_marks rest =
      marks_ext (length ms) (summary ms ++ rest) ms refl
      (λ i h.
      let d : 64 * (i / 64) + i % 64 ≡ i = omega arith in
      at_word_lem (summary ms ++ rest) (i / 64) (i % 64) i (omega arith) (omega arith)
      ∙ ap (λ (x : ℕ). bit x (i % 64)) (summary_front rest (i / 64) (omega arith) ∙ summary_word (i / 64) (omega arith))
      ∙ summary_bit (i / 64) (i % 64) (omega arith)
      ∙ ap (λ (k : ℕ). one (get_or ms k false)) d)
