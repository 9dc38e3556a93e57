-- Questions: the rank from totals, and the least marked record. Assumes nothing.
use Rattle.std.specs.Prelude.{Option, Some, None}
use Rattle.std.proofs.Common.{◌≡◌, ℕ, zero, suc, ◌+◌, ◌-◌, ◌*◌, ◌/◌, ◌%◌, ◌^◌, ◌<◌, ◌≤◌, Bool, true, false, ◌||◌, T, ltb, List, [], ◌∷◌, length, get_or, drop, sym, refl, ap, ◌∙◌, subst, ap₂, suc-le-suc, zero-le, le_of_suc-le-suc, not-suc-le-zero, add-zero, add-suc, suc-add, add-one, one-add, arith, lit<, length-drop, get_or-drop, shr_lt, le-ltb, lt-ltb, eq-eqb, ne_eqb}
use lib.Bits.{bit_and}
use lib.Count.{ones, count_trailing_zeros, under}
use Rattle.format.specs.Bytes.{pick}
use Rattle.format.specs.Summary.{one, count_of, words_for, needed, bit, bit_at, marks_of, rank_in, count_in, first_from, next_of, holds, unheld, entrances_outcome}
use Rattle.format.proofs.Basics.{less_or_not, pick_true, pick_false}
use Rattle.format.proofs.SummaryWords.{bit_past, bit_shr, bit_first, at_word_lem, mark_of_bit, length_marks_of}
use Rattle.summary.specs.Bits.{sum_to, Least}
use Rattle.summary.proofs.Bits.{ones_masked}
use Rattle.summary.proofs.Sums.{sum_ext}
use Rattle.summary.proofs.Whole.{count_sum}

-- ---- the marks before a record

pub rank_zero : (ws : List ℕ) (n k : ℕ) → k ≡ 0 → rank_in ws n k ≡ 0
unfolding rank_in pick
rank_zero ws n k e = simp (eq-eqb k 0 e)

-- the marks of one word, below k
pub word_count : (ws : List ℕ) (n k m : ℕ) → 0 < k → k ≤ n → m ≡ 2 ^ ((k - 1) % 64 + 1) - 1
    → ones (bit_and (get_or ws ((k - 1) / 64) 0) m) ≡ count_of (marks_of n ws) ((k - 1) / 64 * 64) k
word_count ws n k m p h e =
    let q : (k - 1) % 64 + 1 ≡ k - (k - 1) / 64 * 64 = omega arith in
    ones_masked (get_or ws ((k - 1) / 64) 0) ((k - 1) % 64 + 1) m e
    ∙ ap (sum_to (bit (get_or ws ((k - 1) / 64) 0))) q
    ∙ sum_ext (bit (get_or ws ((k - 1) / 64) 0)) (λ i. one (get_or (marks_of n ws) ((k - 1) / 64 * 64 + i) false)) (k - (k - 1) / 64 * 64)
    (λ i g.
    sym (at_word_lem ws ((k - 1) / 64) i ((k - 1) / 64 * 64 + i) (omega arith) (omega arith))
    ∙ sym (mark_of_bit n ws ((k - 1) / 64 * 64 + i) (omega arith)))
    ∙ sym (count_sum (marks_of n ws) ((k - 1) / 64 * 64) k)

pub rank_at : (ws : List ℕ) (n k w m : ℕ) → (k ≡ 0 → ⊥) → k ≤ n → w ≡ words_for n → m ≡ 2 ^ ((k - 1) % 64 + 1) - 1
    → (get_or ws (w + (k - 1) / 64) 0 + ones (bit_and (get_or ws ((k - 1) / 64) 0) m)) % 2 ^ 64 ≡ rank_in ws n k
unfolding rank_in pick
rank_at ws n k w m p h d e =
    simp (ne_eqb k 0 p)
    (ap₂ (λ (v x : ℕ). (get_or ws (v + (k - 1) / 64) 0 + x) % 2 ^ 64) d (word_count ws n k m (omega arith) h e))

-- ---- the least set bit of a word

bit_suc : (w i : ℕ) → bit w (suc i) ≡ bit (w / 2) i
bit_suc w i = ap (bit w) (sym (one-add i)) ∙ sym (bit_shr w 1 i)

even_step : (w t : ℕ) → w % 2 ≡ 0 → Least (w / 2) t → Least w (suc t)
even_step w t e l = record { set = bit_suc w t ∙ l.set; none = below }
  where
    below : (j : ℕ) → j < suc t → bit w j ≡ 0
    below zero h = bit_first w ∙ e
    below (suc j) h = bit_suc w j ∙ l.none j (le_of_suc-le-suc h)

odd_step : (w : ℕ) → w % 2 ≡ 1 → Least w 0
odd_step w e = record { set = bit_first w ∙ e; none = λ j h. absurd (not-suc-le-zero h) }

pub least : (d w : ℕ) → 0 < w → w < 2 ^ d → Least w (count_trailing_zeros d w) × (count_trailing_zeros d w < d)
unfolding count_trailing_zeros
least zero w p h = absurd (omega arith)
least (suc d) w p h =
    go (w % 2) refl (λ q. least d (w / 2) q (shr_lt d 1 (subst (λ (n : ℕ). w < 2 ^ n) (sym (add-one d)) h)))
  where
    go : (r : ℕ) → w % 2 ≡ r → (0 < w / 2 → Least (w / 2) (count_trailing_zeros d (w / 2)) × (count_trailing_zeros d (w / 2) < d))
        → Least w (under r (count_trailing_zeros d (w / 2))) × (under r (count_trailing_zeros d (w / 2)) < suc d)
    go zero e rest = let ih = rest (omega arith) in (even_step w _ e ih.0, suc-le-suc ih.1)
    go (suc r) e rest = (odd_step w (omega arith), suc-le-suc zero-le)

-- ---- the least marked record

first_at : (l : List Bool) (i t : ℕ) → get_or l t false ≡ true → ((k : ℕ) → k < t → get_or l k false ≡ false) → first_from i l ≡ Some (i + t)
unfolding first_from
first_at [] i t e f = absurd (subst T (sym e) tt)
first_at (true ∷ l) i zero e f = ap Some (sym (add-zero i))
first_at (true ∷ l) i (suc t) e f = absurd (subst T (f 0 (suc-le-suc zero-le)) tt)
first_at (false ∷ l) i zero e f = absurd (subst T (sym e) tt)
first_at (false ∷ l) i (suc t) e f = first_at l (suc i) t e (λ k h. f (suc k) (suc-le-suc h)) ∙ ap Some (suc-add i t ∙ sym (add-suc i t))

first_none : (l : List Bool) (i : ℕ) → ((k : ℕ) → k < length l → get_or l k false ≡ false) → first_from i l ≡ None
unfolding first_from
first_none [] i f = refl
first_none (true ∷ l) i f = absurd (subst T (f 0 (suc-le-suc zero-le)) tt)
first_none (false ∷ l) i f = first_none l (suc i) (λ k h. f (suc k) (suc-le-suc h))

is_marked : (b : Bool) → one b ≡ 1 → b ≡ true
is_marked true e = refl
is_marked false e = absurd (omega arith)

is_clear : (b : Bool) → one b ≡ 0 → b ≡ false
is_clear true e = absurd (omega arith)
is_clear false e = refl

-- no marked record from a up to but not including b
abbrev pub Clear : List ℕ → ℕ → ℕ → Type 0
Clear ws a b = (i : ℕ) → a ≤ i → i < b → bit_at ws i ≡ 0

clear_mark : (ws : List ℕ) (n a b : ℕ) → Clear ws a b → (i : ℕ) → a ≤ i → i < b → i < n → get_or (marks_of n ws) i false ≡ false
clear_mark ws n a b f i h g p = is_clear (get_or (marks_of n ws) i false) (mark_of_bit n ws i p ∙ f i h g)

pub next_at_lem : (ws : List ℕ) (n a r : ℕ) → a ≤ r → r < n → Clear ws a r → bit_at ws r ≡ 1 → next_of (marks_of n ws) a ≡ Some r
unfolding next_of
next_at_lem ws n a r h p f e =
    let q : a + (r - a) ≡ r = omega arith in
    first_at (drop a (marks_of n ws)) a (r - a)
    (get_or-drop a (marks_of n ws) (r - a) false
    ∙ ap (λ (k : ℕ). get_or (marks_of n ws) k false) q
    ∙ is_marked (get_or (marks_of n ws) r false) (mark_of_bit n ws r p ∙ e))
    (λ k g. get_or-drop a (marks_of n ws) k false ∙ clear_mark ws n a r f (a + k) (omega arith) (omega arith) (omega arith))
    ∙ ap Some q

pub next_none : (ws : List ℕ) (n a b : ℕ) → n ≤ b → Clear ws a b → next_of (marks_of n ws) a ≡ None
unfolding next_of
next_none ws n a b h f =
    first_none (drop a (marks_of n ws)) a
    (λ k g.
    let e : length (drop a (marks_of n ws)) ≡ length (marks_of n ws) - a = length-drop a (marks_of n ws) in
    get_or-drop a (marks_of n ws) k false
    ∙ clear_mark ws n a b f (a + k) (omega arith) (omega (arith, length_marks_of n ws)) (omega (arith, length_marks_of n ws)))

-- ---- one turn of the search

-- nothing in what is left of a word
pub turn_none : (ws : List ℕ) (a j s : ℕ) → s < 64 → Clear ws a (64 * j + s) → get_or ws j 0 / 2 ^ s ≡ 0 → Clear ws a (64 * (j + 1) + 0)
turn_none ws a j s h f e i p q =
    less_or_not i (64 * j + s)
    (λ g. f i p g)
    (λ g.
    let d : s + (i - (64 * j + s)) ≡ i - 64 * j = omega arith in
    at_word_lem ws j (i - 64 * j) i (omega arith) (omega arith)
    ∙ ap (bit (get_or ws j 0)) (sym d)
    ∙ sym (bit_shr (get_or ws j 0) s (i - (64 * j + s)))
    ∙ ap (λ (x : ℕ). bit x (i - (64 * j + s))) e
    ∙ bit_past 0 0 (i - (64 * j + s)) (lit< tt) (omega arith))

-- a bit in what is left of a word
module _ (ws : List ℕ) (a j s t : ℕ) (h : s < 64) (fits : get_or ws j 0 < 2 ^ 64) (L : Least (get_or ws j 0 / 2 ^ s) t) where
  set_there : bit (get_or ws j 0) (s + t) ≡ 1
  set_there = sym (bit_shr (get_or ws j 0) s t) ∙ L.set

  pub turn_in : s + t < 64
  turn_in = less_or_not (s + t) 64 (λ q. q) (λ q. absurd (omega (arith, bit_past (get_or ws j 0) 64 (s + t) fits q, set_there)))

  pub turn_set : bit_at ws (j * 64 + (s + t)) ≡ 1
  turn_set = at_word_lem ws j (s + t) (j * 64 + (s + t)) turn_in (omega arith) ∙ set_there

  pub turn_clear : Clear ws a (64 * j + s) → Clear ws a (j * 64 + (s + t))
  turn_clear f i p q =
      less_or_not i (64 * j + s)
      (λ g. f i p g)
      (λ g.
      let d : s + (i - (64 * j + s)) ≡ i - 64 * j = omega arith in
      at_word_lem ws j (i - 64 * j) i (omega (arith, turn_in)) (omega arith)
      ∙ ap (bit (get_or ws j 0)) (sym d)
      ∙ sym (bit_shr (get_or ws j 0) s (i - (64 * j + s)))
      ∙ L.none (i - (64 * j + s)) (omega arith))

-- ---- the answers

outside_past : (x y z : Bool) → z ≡ true → (x || (y || z)) ≡ true
outside_past true y z e = refl
outside_past false true z e = refl
outside_past false false z e = e

module _ (ws : List ℕ) (n a b w : ℕ) (e : w ≡ words_for n) where
  pub short : length ws < 2 * w → unheld 11 (2 * w) ≡ entrances_outcome ws n a b
  unfolding entrances_outcome
  short h = rw e (sym (pick_true _ _ (lt-ltb (length ws) (needed n) (omega arith))))

  module _ (room : 2 * w ≤ length ws) where
    enough : ltb (length ws) (needed n) ≡ false
    enough = le-ltb (length ws) (needed n) (omega arith)

    pub turned : b < a → unheld 15 n ≡ entrances_outcome ws n a b
    unfolding entrances_outcome pick
    turned h = sym (simp (enough, lt-ltb b a h))

    pub past : a ≤ b → n < b → unheld 15 n ≡ entrances_outcome ws n a b
    unfolding entrances_outcome
    past g h = sym (pick_false _ _ enough ∙ pick_true _ _ (outside_past (ltb b a) (ltb n a) (ltb n b) (lt-ltb n b h)))

    pub held : (c : ℕ) (x : Option ℕ) → a ≤ b → b ≤ n → c ≡ count_in ws n a b → x ≡ next_of (marks_of n ws) a → holds c x ≡ entrances_outcome ws n a b
    unfolding entrances_outcome pick
    held c x g h p q = ap₂ holds p q ∙ sym (simp (enough, le-ltb b a g, le-ltb n a (omega arith), le-ltb n b h))
