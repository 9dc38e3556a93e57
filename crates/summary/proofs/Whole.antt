-- The summary as a list of words. Assumes nothing.
use Rattle.std.proofs.Common.{◌≡◌, ℕ, zero, suc, ◌+◌, ◌-◌, ◌*◌, ◌^◌, ◌<◌, ◌≤◌, Bool, false, List, [], ◌∷◌, ◌++◌, length, get_or, take, drop, sym, refl, ap, ◌∙◌, subst, le_of_suc-le-suc, pow-suc, arith, length-append, length-drop, length-take, get_or-drop, get_or-append-add, ext_get_or, pow_pos}
use lib.ListN.{get_or-append, get_or-eq_default}
use Rattle.format.specs.Bytes.{over}
use Rattle.format.specs.Summary.{one, marked, count_of, word_of, words_for, needed, summary, bit, bit_at, marks_of}
use Rattle.format.proofs.Basics.{less_or_not}
use Rattle.format.proofs.SummaryWords.{one_two, at_word_lem, mark_of_bit, length_marks_of, length_summary, summary_word, summary_total, summary_bit}
use Rattle.summary.specs.Bits.{sum_to, Cleared, Totalled}
use Rattle.summary.proofs.Bits.{bit_ext}
use Rattle.summary.proofs.Sums.{sum_ext}

-- ---- a word of marks

word_lt : (l : List Bool) (k : ℕ) → length l ≤ k → word_of l < 2 ^ k
unfolding word_of
word_lt [] k h = pow_pos k
word_lt (b ∷ l) zero h = absurd (omega arith)
word_lt (b ∷ l) (suc k) h =
    let p : word_of l < 2 ^ k = word_lt l k (le_of_suc-le-suc h) in
    let q : 2 ^ suc k ≡ 2 ^ k * 2 = pow-suc 2 k in
    omega (arith, one_two b)

-- ---- counts

sum_cons : (f : ℕ → ℕ) (k : ℕ) → sum_to f (suc k) ≡ f 0 + sum_to (λ i. f (suc i)) k
unfolding sum_to
sum_cons f zero = omega arith
sum_cons f (suc k) = let e = sum_cons f k in omega arith

sum_none : (k : ℕ) → sum_to (λ i. 0) k ≡ 0
unfolding sum_to
sum_none zero = refl
sum_none (suc k) = omega (arith, sum_none k)

pub marked_sum : (ms : List Bool) (k : ℕ) → marked (take k ms) ≡ sum_to (λ i. one (get_or ms i false)) k
unfolding marked sum_to
marked_sum ms zero = refl
marked_sum [] (suc k) = sym (sum_none (suc k))
marked_sum (b ∷ ms) (suc k) = ap (λ (x : ℕ). one b + x) (marked_sum ms k) ∙ sym (sum_cons (λ i. one (get_or (b ∷ ms) i false)) k)

pub count_sum : (ms : List Bool) (a b : ℕ) → count_of ms a b ≡ sum_to (λ i. one (get_or ms (a + i) false)) (b - a)
unfolding count_of
count_sum ms a b =
    marked_sum (drop a ms) (b - a)
    ∙ sum_ext (λ i. one (get_or (drop a ms) i false)) (λ i. one (get_or ms (a + i) false)) (b - a) (λ i h. ap one (get_or-drop a ms i false))

summary_lt : (ms : List Bool) (j : ℕ) → word_of (take 64 (drop (64 * j) ms)) < 2 ^ 64
summary_lt ms j = word_lt (take 64 (drop (64 * j) ms)) 64 (omega (arith, length-take 64 (drop (64 * j) ms)))

-- ---- at the front of a buffer

over_front : (s b : List ℕ) (j : ℕ) → j < length s → get_or (over s b) j 0 ≡ get_or s j 0
unfolding over
over_front s b j h = get_or-append s (drop (length s) b) 0 j h

over_rest : (s b : List ℕ) (j : ℕ) → length s ≤ j → get_or (over s b) j 0 ≡ get_or b j 0
unfolding over
over_rest s b j h =
    let e : j ≡ length s + (j - length s) = omega arith in
    ap (λ (k : ℕ). get_or (over s b) k 0) e
    ∙ get_or-append-add s (drop (length s) b) (j - length s) 0
    ∙ get_or-drop (length s) b (j - length s) 0
    ∙ ap (λ (k : ℕ). get_or b k 0) (sym e)

pub length_over : (s b : List ℕ) → length s ≤ length b → length (over s b) ≡ length b
unfolding over
length_over s b h = simp (length-append, length-drop) (omega arith)

pub over_agree : (s ws ws₁ : List ℕ) → length ws₁ ≡ length ws → ((j : ℕ) → length s ≤ j → get_or ws₁ j 0 ≡ get_or ws j 0) → over s ws₁ ≡ over s ws
unfolding over
over_agree s ws ws₁ e f =
    ap (λ (x : List ℕ). s ++ x)
    (ext_get_or 0 (drop (length s) ws₁) (drop (length s) ws) (simp length-drop (ap (λ (n : ℕ). n - length s) e))
    (λ i h. get_or-drop (length s) ws₁ i 0 ∙ f (length s + i) (omega arith) ∙ sym (get_or-drop (length s) ws i 0)))

-- ---- spare bits and totals make the words the summary of their marks

module _ (ws ws₂ ws₃ : List ℕ) (n : ℕ) (same : length ws₃ ≡ length ws) (room : needed n ≤ length ws) (C : Cleared ws ws₂ n (words_for n))
    (S : Totalled ws₂ ws₃ (words_for n) (words_for n)) (fits : (j : ℕ) → get_or ws₃ j 0 < 2 ^ 64) where
  long : length (marks_of n ws) ≡ n
  long = length_marks_of n ws

  in_word : (j i : ℕ) → j < words_for n → i < 64 → bit (get_or ws₃ j 0) i ≡ one (get_or (marks_of n ws) (64 * j + i) false)
  in_word j i h p =
      ap (λ (x : ℕ). bit x i) (S.marks j h)
      ∙ sym (at_word_lem ws₂ j i (64 * j + i) p refl)
      ∙ less_or_not (64 * j + i) n
      (λ q. C.below (64 * j + i) q ∙ sym (mark_of_bit n ws (64 * j + i) q))
      (λ q. C.spare (64 * j + i) q (omega arith) ∙ ap one (sym (get_or-eq_default (marks_of n ws) false {n = 64 * j + i} (omega (arith, long)))))

  in_total : (j : ℕ) → j < words_for n → get_or ws₃ (words_for n + j) 0 ≡ marked (take (64 * j) (marks_of n ws))
  in_total j h =
      S.totals j h
      ∙ sum_ext (bit_at ws₂) (λ i. one (get_or (marks_of n ws) i false)) (64 * j)
      (λ i p. C.below i (omega arith) ∙ sym (mark_of_bit n ws i (omega arith)))
      ∙ sym (marked_sum (marks_of n ws) (64 * j))

  size : length (summary (marks_of n ws)) ≡ needed n
  size = length_summary (marks_of n ws) ∙ ap needed long

  front : (j : ℕ) → j < needed n → get_or ws₃ j 0 ≡ get_or (summary (marks_of n ws)) j 0
  front j h =
      less_or_not j (words_for n)
      (λ p.
      bit_ext 64 (get_or ws₃ j 0) (word_of (take 64 (drop (64 * j) (marks_of n ws)))) (fits j) (summary_lt (marks_of n ws) j)
      (λ i q. in_word j i p q ∙ sym (summary_bit (marks_of n ws) j i q))
      ∙ sym (summary_word (marks_of n ws) j (subst (λ (k : ℕ). j < words_for k) (sym long) p)))
      (λ p.
      let e : j ≡ words_for n + (j - words_for n) = omega arith in
      let q : j - words_for n < words_for n = omega arith in
      ap (λ (k : ℕ). get_or ws₃ k 0) e
      ∙ in_total (j - words_for n) q
      ∙ sym (summary_total (marks_of n ws) (j - words_for n) (subst (λ (k : ℕ). j - words_for n < words_for k) (sym long) q))
      ∙ ap (λ (k : ℕ). get_or (summary (marks_of n ws)) (words_for k + (j - words_for n)) 0) long
      ∙ ap (λ (k : ℕ). get_or (summary (marks_of n ws)) k 0) (sym e))

  pub finished : ws₃ ≡ over (summary (marks_of n ws)) ws
  finished =
      ext_get_or 0 ws₃ (over (summary (marks_of n ws)) ws) (same ∙ sym (length_over (summary (marks_of n ws)) ws (omega (arith, size))))
      (λ j h.
      less_or_not j (needed n)
      (λ p. front j p ∙ sym (over_front (summary (marks_of n ws)) ws j (omega (arith, size))))
      (λ p. S.beyond j (omega arith) ∙ C.beyond j (omega arith) ∙ sym (over_rest (summary (marks_of n ws)) ws j (omega (arith, size)))))
