-- What a change of a node's links leaves of the room. Assumes nothing.
use Prim.Native.Nat.{ℕ, zero, suc, ◌+◌, ◌-◌, ◌*◌, ◌/◌, ◌%◌, ◌≤◌, ◌<◌}
use mathlib.Core.Path.{◌≡◌, refl, ◌∙◌}
use mathlib.Core.List.{List, [], ◌∷◌}
use mathlib.Core.Logic.{◌⊎◌, inl, inr}
use native.Mathlib.Omega.{arith}
use native.Mathlib.Nat.{add-zero}
use native.Mathlib.Decide.{dec_lt}
use lib.ListN.{length, drop}
use Rattle.wire.specs.Laid.{laid}
use Rattle.piece.specs.Pieces.{le24, to_le24, piece}
use Rattle.wire.proofs.Laws.{length_laid}
use Rattle.piece.proofs.Laws.{piece_before, piece_behind, piece_of, le16_piece, le24_piece, le32_piece, le40_piece}
use Rattle.table.specs.Room.{start_at, size_at, hash_at, next_at, point_at, name_at, head_spot, head_at, hung_at, blank}
use Rattle.table.specs.Good.{Links}

-- ---- places apart

-- a piece and another place are apart
abbrev pub Apart : ℕ → ℕ → ℕ → ℕ → Type 0
Apart a m k s = (a + m ≤ k) ⊎ (k + s ≤ a)

pub away : (d s : List ℕ) (k a m n : ℕ) → k ≤ length d → length s ≡ n → Apart a m k n → piece (laid d k s) a m ≡ piece d a m
away d s k a m n h e (inl b) = piece_before d s k a m h b
away d s k a m n h e (inr b) = piece_behind d s k a m h (omega arith)

pub order : (a b : ℕ) → (a < b) ⊎ ((b < a) ⊎ (a ≡ b))
order a b = go (dec_lt a b) (dec_lt b a)
  where
    go : Dec (a < b) → Dec (b < a) → (a < b) ⊎ ((b < a) ⊎ (a ≡ b))
    go (yes x) d = inl x
    go (no x) (yes y) = inr (inl y)
    go (no x) (no y) = inr (inr (omega arith))

heads_apart : (b c : ℕ) → (b ≡ c → ⊥) → Apart (head_spot b) 3 (head_spot c) 3
heads_apart b c off = go (order b c)
  where
    go : (b < c) ⊎ ((c < b) ⊎ (b ≡ c)) → Apart (head_spot b) 3 (head_spot c) 3
    go (inl x) = inl (omega arith)
    go (inr (inl x)) = inr (omega arith)
    go (inr (inr x)) = absurd (off x)

head_next : (b i : ℕ) → Apart (head_spot b) 3 (32 * i + 17) 3
head_next b i = go (order (b / 2) i)
  where
    go : (b / 2 < i) ⊎ ((i < b / 2) ⊎ (b / 2 ≡ i)) → Apart (head_spot b) 3 (32 * i + 17) 3
    go (inl x) = inl (omega arith)
    go (inr (inl x)) = inr (omega arith)
    go (inr (inr x)) = inl (omega arith)

flip : (a m k s : ℕ) → Apart a m k s → Apart k s a m
flip a m k s (inl x) = inr x
flip a m k s (inr x) = inl x

nexts_apart : (i k : ℕ) → (i ≡ k → ⊥) → Apart (32 * i + 17) 3 (32 * k + 17) 3
nexts_apart i k off = go (order i k)
  where
    go : (i < k) ⊎ ((k < i) ⊎ (i ≡ k)) → Apart (32 * i + 17) 3 (32 * k + 17) 3
    go (inl x) = inl (omega arith)
    go (inr (inl x)) = inr (omega arith)
    go (inr (inr x)) = absurd (off x)

-- ---- a change of links

pub links_refl : (r : List ℕ) (n : ℕ) → Links r r n
links_refl r n = record { same_length = refl; front = λ j a m h. refl; rear = λ j a m h k. refl; names = λ a m h. refl }

pub links_trans : (r s t : List ℕ) (n : ℕ) → Links r s n → Links s t n → Links r t n
links_trans r s t n x y =
    record {
      same_length = y.same_length ∙ x.same_length;
      front = λ j a m h. y.front j a m h ∙ x.front j a m h;
      rear = λ j a m h k. y.rear j a m h k ∙ x.rear j a m h k;
      names = λ a m h. y.names a m h ∙ x.names a m h;
    }

-- bytes laid among the links of node i
links_laid : (r s : List ℕ) (n i k l : ℕ) → i < n → 32 * n ≤ length r → length s ≡ l → 32 * i + 11 ≤ k → k + l ≤ 32 * i + 20 → Links r (laid r k s) n
links_laid r s n i k l li room e lo hi =
    record {
      same_length = length_laid r s k (omega arith);
      front = λ j a m h. away r s k (32 * j + a) m l (omega arith) e (before j a m h (order j i));
      rear = λ j a m h h'. away r s k (32 * j + a) m l (omega arith) e (behind j a m h h' (order j i));
      names = λ a m h. piece_behind r s k a m (omega arith) (omega arith);
    }
  where
    before : (j a m : ℕ) → a + m ≤ 11 → (j < i) ⊎ ((i < j) ⊎ (j ≡ i)) → Apart (32 * j + a) m k l
    before j a m h (inl x) = inl (omega arith)
    before j a m h (inr (inl x)) = inr (omega arith)
    before j a m h (inr (inr x)) = inl (omega arith)

    behind : (j a m : ℕ) → 20 ≤ a → a + m ≤ 32 → (j < i) ⊎ ((i < j) ⊎ (j ≡ i)) → Apart (32 * j + a) m k l
    behind j a m h h' (inl x) = inl (omega arith)
    behind j a m h h' (inr (inl x)) = inr (omega arith)
    behind j a m h h' (inr (inr x)) = inr (omega arith)

-- what is read of a node is kept
module _ (r r' : List ℕ) (n : ℕ) (w : Links r r' n) where
  pub start_kept : (i : ℕ) → start_at r' i ≡ start_at r i
  unfolding start_at
  start_kept i = le40_piece r' r (32 * i) (32 * i) (rw (add-zero (32 * i)) at (w.front i 0 5 (omega arith)))

  pub size_kept : (i : ℕ) → size_at r' i ≡ size_at r i
  unfolding size_at
  size_kept i = le16_piece r' r (32 * i + 5) (32 * i + 5) (w.front i 5 2 (omega arith))

  pub hash_kept : (i : ℕ) → hash_at r' i ≡ hash_at r i
  unfolding hash_at
  hash_kept i = le32_piece r' r (32 * i + 7) (32 * i + 7) (w.front i 7 4 (omega arith))

  pub point_kept : (i : ℕ) → point_at r' i ≡ point_at r i
  unfolding point_at
  point_kept i =
      rw (le32_piece r' r (32 * i + 20) (32 * i + 20) (w.rear i 20 4 (omega arith) (omega arith)), le32_piece r' r (32 * i + 24) (32 * i + 24) (w.rear i 24 4 (omega arith) (omega arith)), le32_piece r' r (32 * i + 28) (32 * i + 28) (w.rear i 28 4 (omega arith) (omega arith)))

  pub name_kept : (i : ℕ) → 32 * n ≤ length r - start_at r i → name_at r' i ≡ name_at r i
  unfolding name_at
  name_kept i h = rw (w.same_length, start_kept i, size_kept i) (w.names (length r - start_at r i) (size_at r i) h)

-- ---- a node put at the front of a chain

pub le24_read : (n : ℕ) → n < 16777216 → le24 (drop 0 (to_le24 n)) ≡ n
unfolding le24 to_le24
le24_read n h = let z : n / 65536 % 256 ≡ n / 65536 = omega arith in rw z (omega arith)

pub three : (n : ℕ) → length (to_le24 n) ≡ 3
unfolding to_le24
three n = refl

pub record Hung (r r' : List ℕ) (b i : ℕ) : Type 0 where
  pub nexts : (k : ℕ) → (k ≡ i → ⊥) → next_at r' k ≡ next_at r k
  pub next_new : next_at r' i ≡ head_at r b
  pub heads : (c : ℕ) → (c ≡ b → ⊥) → head_at r' c ≡ head_at r c
  pub head_new : head_at r' b ≡ i + 1

module _ (r : List ℕ) (n b i : ℕ) (room : 32 * n ≤ length r) (hb : b / 2 < n) (hi : i < n) (few : n < 16777216) (small : head_at r b < 16777216) where
  abbrev one : List ℕ
  one = to_le24 (head_at r b)

  abbrev two : List ℕ
  two = to_le24 (i + 1)

  r₁ : List ℕ
  r₁ = laid r (32 * i + 17) one

  links₁ : Links r r₁ n
  unfolding r₁
  links₁ = links_laid r one n i (32 * i + 17) 3 hi room (three (head_at r b)) (omega arith) (omega arith)

  pub hang_links : Links r (hung_at r b i) n
  unfolding hung_at r₁
  hang_links =
      links_trans r r₁ (laid r₁ (head_spot b) two) n links₁
      (links_laid r₁ two n (b / 2) (head_spot b) 3 hb (let e = links₁.same_length in omega arith) (three (i + 1)) (omega arith) (omega arith))

  first_away : (a : ℕ) → Apart a 3 (32 * i + 17) 3 → piece r₁ a 3 ≡ piece r a 3
  unfolding r₁
  first_away a x = away r one (32 * i + 17) a 3 3 (omega arith) (three (head_at r b)) x

  then_away : (a : ℕ) → Apart a 3 (head_spot b) 3 → piece (laid r₁ (head_spot b) two) a 3 ≡ piece r₁ a 3
  then_away a x = away r₁ two (head_spot b) a 3 3 (let e = links₁.same_length in omega arith) (three (i + 1)) x

  pub hang_hung : Hung r (hung_at r b i) b i
  unfolding hung_at next_at head_at r₁
  hang_hung =
      let r₂ = laid r₁ (head_spot b) two in
      record {
        nexts = λ k off. le24_piece r₂ r (32 * k + 17) (32 * k + 17) (then_away (32 * k + 17) (flip _ _ _ _ (head_next b k)) ∙ first_away (32 * k + 17) (nexts_apart k i off));
        next_new =
            le24_piece r₂ one (32 * i + 17) 0
            (then_away (32 * i + 17) (flip _ _ _ _ (head_next b i)) ∙ (rw (add-zero (32 * i + 17)) at (piece_of r one (32 * i + 17) 0 3 (omega arith) (let e = three (head_at r b) in omega arith))))
            ∙ le24_read (head_at r b) small;
        heads = λ c off. le24_piece r₂ r (head_spot c) (head_spot c) (then_away (head_spot c) (heads_apart c b off) ∙ first_away (head_spot c) (head_next c i));
        head_new =
            le24_piece r₂ two (head_spot b) 0 (rw (add-zero (head_spot b)) at (piece_of r₁ two (head_spot b) 0 3 (let e = links₁.same_length in omega arith) (let e = three (i + 1) in omega arith)))
            ∙ le24_read (i + 1) (omega arith);
      }

-- ---- no heads

module _ (r : List ℕ) (n i : ℕ) (room : 32 * n ≤ length r) (hi : i < n) where
  abbrev six : List ℕ
  six = 0 ∷ 0 ∷ 0 ∷ 0 ∷ 0 ∷ 0 ∷ []

  pub blank_links : Links r (blank r i) n
  unfolding blank
  blank_links = links_laid r six n i (32 * i + 11) 6 hi room refl (omega arith) (omega arith)

  zero_in : (s : ℕ) → s < 2 → le24 (drop (3 * s) six) ≡ 0
  unfolding le24
  zero_in zero h = refl
  zero_in (suc zero) h = refl
  zero_in (suc (suc s)) h = absurd (omega arith)

  pub blank_here : (b : ℕ) → b / 2 ≡ i → head_at (blank r i) b ≡ 0
  unfolding head_at blank
  blank_here b e =
      let q : head_spot b ≡ 32 * i + 11 + 3 * (b % 2) = omega arith in
      rw q (le24_piece (laid r (32 * i + 11) six) six (32 * i + 11 + 3 * (b % 2)) (3 * (b % 2)) (piece_of r six (32 * i + 11) (3 * (b % 2)) 3 (omega arith) (omega arith)) ∙ zero_in (b % 2) (omega arith))

  pub blank_other : (b : ℕ) → b / 2 < i → head_at (blank r i) b ≡ head_at r b
  unfolding head_at blank
  blank_other b l = le24_piece (laid r (32 * i + 11) six) r (head_spot b) (head_spot b) (piece_before r six (32 * i + 11) (head_spot b) 3 (omega arith) (omega arith))
