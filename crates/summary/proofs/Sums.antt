-- Sums of bits, and the totals. Assumes nothing.
use Rattle.std.proofs.Common.{◌≡◌, ℕ, zero, suc, ◌+◌, ◌*◌, ◌<◌, List, length, get_or, set, sym, refl, ap, ◌∙◌, ap₂, add-zero, add_assoc, add-suc, arith, get_or-set_other, get_or-set_same}
use Rattle.format.specs.Summary.{bit, bit_at}
use Rattle.format.proofs.SummaryWords.{at_word_lem}
use Rattle.summary.specs.Bits.{sum_to, Totalled}
use Rattle.summary.proofs.Words.{alike}

pub sum_ext : (f g : ℕ → ℕ) (k : ℕ) → ((i : ℕ) → i < k → f i ≡ g i) → sum_to f k ≡ sum_to g k
unfolding sum_to
sum_ext f g zero h = refl
sum_ext f g (suc k) h = ap₂ ◌+◌ (sum_ext f g k (λ i p. h i (omega arith))) (h k (omega arith))

pub sum_add : (f : ℕ → ℕ) (a b : ℕ) → sum_to f (a + b) ≡ sum_to f a + sum_to (λ i. f (a + i)) b
unfolding sum_to
sum_add f a zero = ap (sum_to f) (add-zero a) ∙ sym (add-zero (sum_to f a))
sum_add f a (suc b) =
    ap (sum_to f) (add-suc a b) ∙ ap (λ (x : ℕ). x + f (a + b)) (sum_add f a b) ∙ add_assoc (sum_to f a) (sum_to (λ i. f (a + i)) b) (f (a + b))

-- one word more
pub sum_word : (ws : List ℕ) (j : ℕ) → sum_to (bit_at ws) (64 * (j + 1)) ≡ sum_to (bit_at ws) (64 * j) + sum_to (bit (get_or ws j 0)) 64
sum_word ws j =
    let e : 64 * (j + 1) ≡ 64 * j + 64 = omega arith in
    ap (sum_to (bit_at ws)) e
    ∙ sum_add (bit_at ws) (64 * j) 64
    ∙ ap (λ (x : ℕ). sum_to (bit_at ws) (64 * j) + x)
    (sum_ext (λ i. bit_at ws (64 * j + i)) (bit (get_or ws j 0)) 64 (λ i h. at_word_lem ws j i (64 * j + i) h refl))

pub totalled_none : (ws : List ℕ) (w : ℕ) → Totalled ws ws w 0
totalled_none ws w = record { marks = λ j h. refl; totals = λ j h. absurd (omega arith); beyond = λ j h. refl }

pub totalled_next : {ws ws₁ : List ℕ} {w : ℕ} (j sum : ℕ) → j < w → w + j < length ws₁ → sum ≡ sum_to (bit_at ws) (64 * j) → Totalled ws ws₁ w j
    → Totalled ws (set ws₁ (w + j) sum) w (j + 1)
totalled_next {ws} {ws₁} {w} j sum h p e T =
    record {
      marks = λ k g. get_or-set_other ws₁ (w + j) k sum 0 (λ q. omega arith) ∙ T.marks k g;
      totals = λ k g.
          alike k j
          (λ q. ap (λ (x : ℕ). get_or (set ws₁ (w + j) sum) (w + x) 0) q ∙ get_or-set_same ws₁ (w + j) sum 0 p ∙ e ∙ ap (λ (x : ℕ). sum_to (bit_at ws) (64 * x)) (sym q))
          (λ n. get_or-set_other ws₁ (w + j) (w + k) sum 0 (λ q. n (omega arith)) ∙ T.totals k (omega (arith, near k j g n)));
      beyond = λ k g. get_or-set_other ws₁ (w + j) k sum 0 (λ q. omega arith) ∙ T.beyond k (omega arith);
    }
  where
    near : (k j : ℕ) → k < j + 1 → (k ≡ j → ⊥) → k < j
    near k j g n = omega arith

pub totalled_sum : {ws ws₁ : List ℕ} {w : ℕ} (j sum r : ℕ) → j < w → sum ≡ sum_to (bit_at ws) (64 * j) → Totalled ws ws₁ w j
    → r ≡ sum_to (bit (get_or (set ws₁ (w + j) sum) j 0)) 64 → sum + r ≡ sum_to (bit_at ws) (64 * (j + 1))
totalled_sum {ws} {ws₁} {w} j sum r h e T q =
    ap₂ ◌+◌ e (q ∙ ap (λ (x : ℕ). sum_to (bit x) 64) (get_or-set_other ws₁ (w + j) j sum 0 (λ p. omega arith) ∙ T.marks j h)) ∙ sym (sum_word ws j)
