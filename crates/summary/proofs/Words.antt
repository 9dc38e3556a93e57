-- Bits of many words, 64 to a word. Assumes nothing.
use Rattle.std.proofs.Common.{◌≡◌, ℕ, ◌+◌, ◌-◌, ◌*◌, ◌/◌, ◌%◌, ◌^◌, ◌<◌, ◌≤◌, Bool, true, false, eqb, List, length, get_or, set, sym, refl, ap, ◌∙◌, subst, arith, lit<, get_or-set_other, get_or-set_same, eqb-true}
use borrow.Author.Tests.{eqb-false}
use lib.Bits.{bit_or, or_zero_l, or_zero_r}
use Rattle.format.specs.Summary.{bit, bit_at}
use Rattle.format.proofs.Basics.{less_or_not}
use Rattle.format.proofs.SummaryWords.{bit_past, bit_shr, at_word_lem}
use Rattle.summary.specs.Bits.{Field, Wrote, Put, Cleared}
use Rattle.summary.proofs.Bits.{bit_shl, bit_shl_below, bit_or_lem}

pub alike : {P : Type 0} (a b : ℕ) → (a ≡ b → P) → ((a ≡ b → ⊥) → P) → P
alike {P} a b f g = go (eqb a b) refl
  where
    go : (t : Bool) → eqb a b ≡ t → P
    go true e = f (eqb-true a b e)
    go false e = g (eqb-false a b e)

-- ---- reading

pub read_one : (ws : List ℕ) (k size i : ℕ) → size ≤ 64 - k % 64 → i < size → bit (get_or ws (k / 64) 0 / 2 ^ (k % 64)) i ≡ bit_at ws (k + i)
read_one ws k size i h g =
    bit_shr (get_or ws (k / 64) 0) (k % 64) i ∙ sym (at_word_lem ws (k / 64) (k % 64 + i) (k + i) (omega arith) (omega arith))

pub read_two : (ws : List ℕ) (k size i : ℕ) → get_or ws (k / 64) 0 < 2 ^ 64 → size ≤ 64 → 64 - k % 64 < size → i < size
    → bit (bit_or (get_or ws (k / 64) 0 / 2 ^ (k % 64)) (get_or ws (k / 64 + 1) 0 * 2 ^ (64 - k % 64) % 2 ^ 64)) i ≡ bit_at ws (k + i)
read_two ws k size i f h p g = go (get_or ws (k / 64) 0) (get_or ws (k / 64 + 1) 0) (k % 64) (64 - k % 64) refl refl refl refl f
  where
    go : (lo hi s part : ℕ) → get_or ws (k / 64) 0 ≡ lo → get_or ws (k / 64 + 1) 0 ≡ hi → k % 64 ≡ s → 64 - k % 64 ≡ part → lo < 2 ^ 64
        → bit (bit_or (lo / 2 ^ s) (hi * 2 ^ part % 2 ^ 64)) i ≡ bit_at ws (k + i)
    go lo hi s part el eh es ep fl =
        bit_or_lem (lo / 2 ^ s) (hi * 2 ^ part % 2 ^ 64) i
        ∙ less_or_not i part
        (λ q.
        ap (bit_or (bit (lo / 2 ^ s) i)) (bit_shl_below hi part i q (omega arith))
        ∙ or_zero_r (bit (lo / 2 ^ s) i)
        ∙ bit_shr lo s i
        ∙ ap (λ (x : ℕ). bit x (s + i)) (sym el)
        ∙ sym (at_word_lem ws (k / 64) (s + i) (k + i) (omega arith) (omega arith)))
        (λ q.
        let e : i ≡ part + (i - part) = omega arith in
        ap (λ (x : ℕ). bit_or x (bit (hi * 2 ^ part % 2 ^ 64) i)) (bit_shr lo s i ∙ bit_past lo 64 (s + i) fl (omega arith))
        ∙ or_zero_l (bit (hi * 2 ^ part % 2 ^ 64) i)
        ∙ ap (bit (hi * 2 ^ part % 2 ^ 64)) e
        ∙ bit_shl hi part (i - part) (omega arith)
        ∙ ap (λ (x : ℕ). bit x (i - part)) (sym eh)
        ∙ sym (at_word_lem ws (k / 64 + 1) (i - part) (k + i) (omega arith) (omega arith)))

-- ---- writing

pub bit_same : (ws : List ℕ) (j r i : ℕ) → j < length ws → (i / 64 ≡ j → bit r (i % 64) ≡ bit (get_or ws j 0) (i % 64)) → bit_at (set ws j r) i ≡ bit_at ws i
unfolding bit_at
bit_same ws j r i h f =
    alike (i / 64) j
    (λ e.
    ap (λ (x : ℕ). bit (get_or (set ws j r) x 0) (i % 64)) e
    ∙ ap (λ (x : ℕ). bit x (i % 64)) (get_or-set_same ws j r 0 h)
    ∙ f e
    ∙ ap (λ (x : ℕ). bit (get_or ws x 0) (i % 64)) (sym e))
    (λ n. ap (λ (x : ℕ). bit x (i % 64)) (get_or-set_other ws j (i / 64) r 0 n))

pub wrote_in : (ws : List ℕ) (j s size v r : ℕ) → 0 < size → s + size ≤ 64 → j < length ws → Field (get_or ws j 0) s size v r → Wrote ws (set ws j r) (64 * j + s) size v
wrote_in ws j s size v r pos fits h F =
    record {
      inside = λ i g.
          at_word_lem (set ws j r) j (s + i) (64 * j + s + i) (omega arith) (omega arith)
          ∙ ap (λ (x : ℕ). bit x (s + i)) (get_or-set_same ws j r 0 h)
          ∙ F.inside i g;
      below = λ i g. bit_same ws j r i h (λ e. F.below (i % 64) (omega arith));
      above = λ i g. bit_same ws j r i h (λ e. F.above (i % 64) (omega arith) (omega arith));
      beyond = λ k g. get_or-set_other ws j k r 0 (λ e. omega arith);
    }

pub wrote_two : (ws ws₁ ws₂ : List ℕ) (k part size v : ℕ) → part ≤ size → Wrote ws ws₁ k part v → Wrote ws₁ ws₂ (k + part) (size - part) (v / 2 ^ part) → Wrote ws ws₂ k size v
wrote_two ws ws₁ ws₂ k part size v h A B =
    record {
      inside = λ i g.
          less_or_not i part
          (λ q. B.below (k + i) (omega arith) ∙ A.inside i q)
          (λ q.
          let e : k + i ≡ k + part + (i - part) = omega arith in
          let d : part + (i - part) ≡ i = omega arith in
          ap (bit_at ws₂) e ∙ B.inside (i - part) (omega arith) ∙ bit_shr v part (i - part) ∙ ap (bit v) d);
      below = λ i g. B.below i (omega arith) ∙ A.below i g;
      above = λ i g. B.above i (omega arith) ∙ A.above i (omega arith);
      beyond = λ j g. B.beyond j (omega arith) ∙ A.beyond j (omega arith);
    }

pub wrote_at : {ws ws' : List ℕ} {k k' size v : ℕ} → k ≡ k' → Wrote ws ws' k size v → Wrote ws ws' k' size v
wrote_at {ws} {ws'} {k} {k'} {size} {v} e w = subst (λ (x : ℕ). Wrote ws ws' x size v) e w

-- ---- runs of bits

pub put_none : (ws : List ℕ) (at k : ℕ) (f : ℕ → ℕ) → Put ws ws at k k f
put_none ws at k f =
    record {
      inside = λ i h g. absurd (omega arith);
      below = λ i h. refl;
      above = λ i h. refl;
      beyond = λ j h. refl;
    }

pub put_up : {ws ws₁ ws₂ : List ℕ} {at lo hi : ℕ} {f : ℕ → ℕ} (size v : ℕ) → lo ≤ hi → Put ws ws₁ at lo hi f → Wrote ws₁ ws₂ (at + hi) size v
    → ((i : ℕ) → i < size → bit v i ≡ f (hi + i)) → Put ws ws₂ at lo (hi + size) f
put_up {ws} {ws₁} {ws₂} {at} {lo} {hi} {f} size v h P W g =
    record {
      inside = λ i p q.
          less_or_not i hi
          (λ r. W.below (at + i) (omega arith) ∙ P.inside i p r)
          (λ r.
          let e : at + i ≡ at + hi + (i - hi) = omega arith in
          let d : hi + (i - hi) ≡ i = omega arith in
          ap (bit_at ws₂) e ∙ W.inside (i - hi) (omega arith) ∙ g (i - hi) (omega arith) ∙ ap f d);
      below = λ i p. W.below i (omega arith) ∙ P.below i p;
      above = λ i p. W.above i (omega arith) ∙ P.above i (omega arith);
      beyond = λ j p. W.beyond j (omega arith) ∙ P.beyond j (omega arith);
    }

pub put_down : {ws ws₁ ws₂ : List ℕ} {at lo hi : ℕ} {f : ℕ → ℕ} (k size v : ℕ) → k + size ≡ lo → lo ≤ hi → Put ws ws₁ at lo hi f → Wrote ws₁ ws₂ (at + k) size v
    → ((i : ℕ) → i < size → bit v i ≡ f (k + i)) → Put ws ws₂ at k hi f
put_down {ws} {ws₁} {ws₂} {at} {lo} {hi} {f} k size v n h P W g =
    record {
      inside = λ i p q.
          less_or_not i lo
          (λ r.
          let e : at + i ≡ at + k + (i - k) = omega arith in
          let d : k + (i - k) ≡ i = omega arith in
          ap (bit_at ws₂) e ∙ W.inside (i - k) (omega arith) ∙ g (i - k) (omega arith) ∙ ap f d)
          (λ r. W.above (at + i) (omega arith) ∙ P.inside i r q);
      below = λ i p. W.below i (omega arith) ∙ P.below i (omega arith);
      above = λ i p. W.above i (omega arith) ∙ P.above i (omega arith);
      beyond = λ j p. W.beyond j (omega arith) ∙ P.beyond j (omega arith);
    }

-- one part of a move: what is read is still what stood there
pub moved_up : {ws ws₁ ws₂ : List ℕ} {from to hi : ℕ} (k left size v : ℕ) → from ≤ to → k + size ≡ left → left ≤ hi
    → Put ws ws₁ to left hi (λ i. bit_at ws (from + i)) → ((i : ℕ) → i < size → bit v i ≡ bit_at ws₁ (from + k + i))
    → Wrote ws₁ ws₂ (to + k) size v → Put ws ws₂ to k hi (λ i. bit_at ws (from + i))
moved_up {ws} {ws₁} {ws₂} {from} {to} {hi} k left size v h n g P R W =
    put_down k size v n g P W
    (λ i p. let e : from + k + i ≡ from + (k + i) = omega arith in R i p ∙ P.below (from + k + i) (omega arith) ∙ ap (bit_at ws) e)

pub moved_down : {ws ws₁ ws₂ : List ℕ} {from to : ℕ} (done size v : ℕ) → to ≤ from
    → Put ws ws₁ to 0 done (λ i. bit_at ws (from + i)) → ((i : ℕ) → i < size → bit v i ≡ bit_at ws₁ (from + done + i))
    → Wrote ws₁ ws₂ (to + done) size v → Put ws ws₂ to 0 (done + size) (λ i. bit_at ws (from + i))
moved_down {ws} {ws₁} {ws₂} {from} {to} done size v h P R W =
    put_up size v (omega arith) P W
    (λ i p. let e : from + done + i ≡ from + (done + i) = omega arith in R i p ∙ P.above (from + done + i) (omega arith) ∙ ap (bit_at ws) e)

-- nothing to move
pub moved_none : {ws : List ℕ} {from to : ℕ} (size : ℕ) → from ≡ to → Put ws ws to 0 size (λ i. bit_at ws (from + i))
moved_none {ws} {from} {to} size e =
    record {
      inside = λ i h g. let d : to + i ≡ from + i = omega arith in ap (bit_at ws) d;
      below = λ i h. refl;
      above = λ i h. refl;
      beyond = λ j h. refl;
    }

-- ---- spare bits

pub cleared : {ws ws' : List ℕ} (n : ℕ) → 0 < n % 64 → Wrote ws ws' (64 * (n / 64) + n % 64) (64 - n % 64) 0 → Cleared ws ws' n ((n + 63) / 64)
cleared {ws} {ws'} n h W =
    record {
      below = λ i g. W.below i (omega arith);
      spare = λ i g q.
          let e : i ≡ 64 * (n / 64) + n % 64 + (i - n) = omega arith in
          ap (bit_at ws') e ∙ W.inside (i - n) (omega arith) ∙ bit_past 0 0 (i - n) (lit< tt) (omega arith);
      beyond = λ j g. W.beyond j (omega arith);
    }

pub cleared_none : {ws : List ℕ} (n : ℕ) → n % 64 ≡ 0 → Cleared ws ws n ((n + 63) / 64)
cleared_none {ws} n h =
    record { below = λ i g. refl; spare = λ i g q. absurd (omega arith); beyond = λ j g. refl }

pub put_from : {ws ws' : List ℕ} {at lo lo' hi : ℕ} {f : ℕ → ℕ} → lo ≡ lo' → Put ws ws' at lo hi f → Put ws ws' at lo' hi f
put_from {ws} {ws'} {at} {lo} {lo'} {hi} {f} e p = subst (λ (x : ℕ). Put ws ws' at x hi f) e p

pub put_to : {ws ws' : List ℕ} {at lo hi hi' : ℕ} {f : ℕ → ℕ} → hi ≡ hi' → Put ws ws' at lo hi f → Put ws ws' at lo hi' f
put_to {ws} {ws'} {at} {lo} {hi} {hi'} {f} e p = subst (λ (x : ℕ). Put ws ws' at lo x f) e p
