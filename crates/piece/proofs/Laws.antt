-- Pieces of what was laid, numbers in pieces, and names compared by fours: whatever is read of a room is a piece of it, whatever is written is
-- laid in, so a piece before or behind what was laid is kept, and a piece of it is read back. Assumes nothing.
use mathlib.Core.Path.{◌≡◌, refl, sym, ap, ap₂, ◌∙◌}
use mathlib.Core.List.{List, [], ◌∷◌, ◌++◌}
use mathlib.Core.Bool.{true, false}
use Prim.Native.Nat.{ℕ, ◌+◌, ◌-◌, ◌*◌, ◌≤◌}
use native.Mathlib.Omega.{arith}
use borrow.Author.Tests.{eq-eqb}
use lib.ListN.{length, take, drop, get_or, length-drop, take-append-drop}
use lib.Seq.{drop-drop, drop_at, length-take-le, take-append-le, drop-append-le, get_or-take}
use Rattle.format.specs.Bytes.{pick, le16, le32, same}
use Rattle.format.proofs.Basics.{same_true, same_refl}
use Rattle.wire.specs.Laid.{laid}
use Rattle.wire.proofs.Laws.{drop_laid, same_false}
use Rattle.piece.specs.Pieces.{le24, le40, piece}

-- ---- pieces of what was laid

-- a piece of the first of two
front : (p x : List ℕ) (a m : ℕ) → a + m ≤ length p → take m (drop a (p ++ x)) ≡ take m (drop a p)
front p x a m h =
    let u : a ≤ length p = omega arith in
    let v : m ≤ length (drop a p) = simp length-drop (omega arith) in
    rw (drop-append-le a p x u) (take-append-le m (drop a p) x v)

-- before it
pub piece_before : (d s : List ℕ) (k a m : ℕ) → k ≤ length d → a + m ≤ k → piece (laid d k s) a m ≡ piece d a m
unfolding piece laid
piece_before d s k a m h b =
    let v : a + m ≤ length (take k d) = simp (length-take-le k d h) b in
    front (take k d) (s ++ drop (k + length s) d) a m v ∙ sym (front (take k d) (drop k d) a m v) ∙ ap (λ (l : List ℕ). take m (drop a l)) (take-append-drop k d)

-- behind it
pub piece_behind : (d s : List ℕ) (k a m : ℕ) → k ≤ length d → k + length s ≤ a → piece (laid d k s) a m ≡ piece d a m
unfolding piece
piece_behind d s k a m h b =
    let e : k + length s + (a - (k + length s)) ≡ a = omega arith in
    ap (take m) (sym (drop-drop (a - (k + length s)) (k + length s) (laid d k s) ∙ ap (λ (i : ℕ). drop i (laid d k s)) e) ∙ ap (drop (a - (k + length s))) (drop_laid d s k h) ∙ drop-drop (a - (k + length s)) (k + length s) d ∙ ap (λ (i : ℕ). drop i d) e)

-- of it
pub piece_of : (d s : List ℕ) (k j m : ℕ) → k ≤ length d → j + m ≤ length s → piece (laid d k s) (k + j) m ≡ piece s j m
unfolding piece laid
piece_of d s k j m h b =
    let x = drop (k + length s) d in
    ap (take m) (sym (drop-drop j k (take k d ++ (s ++ x))) ∙ ap (drop j) (drop_at (take k d) (s ++ x) k (length-take-le k d h))) ∙ front s x j m b

-- ---- numbers in pieces

le16_take : (s : List ℕ) → le16 s ≡ le16 (take 2 s)
unfolding le16
le16_take s = simp (get_or-take 2 s 0 0 (omega arith), get_or-take 2 s 1 0 (omega arith))

le24_take : (s : List ℕ) → le24 s ≡ le24 (take 3 s)
unfolding le24
le24_take s = simp (get_or-take 3 s 0 0 (omega arith), get_or-take 3 s 1 0 (omega arith), get_or-take 3 s 2 0 (omega arith))

le32_take : (s : List ℕ) → le32 s ≡ le32 (take 4 s)
unfolding le32
le32_take s = simp (get_or-take 4 s 0 0 (omega arith), get_or-take 4 s 1 0 (omega arith), get_or-take 4 s 2 0 (omega arith), get_or-take 4 s 3 0 (omega arith))

le40_take : (s : List ℕ) → le40 s ≡ le40 (take 5 s)
unfolding le40
le40_take s = simp (get_or-take 5 s 0 0 (omega arith), get_or-take 5 s 1 0 (omega arith), get_or-take 5 s 2 0 (omega arith), get_or-take 5 s 3 0 (omega arith), get_or-take 5 s 4 0 (omega arith))

module _ (r s : List ℕ) (a b : ℕ) where
  pub le16_piece : piece r a 2 ≡ piece s b 2 → le16 (drop a r) ≡ le16 (drop b s)
  unfolding piece
  le16_piece e = le16_take (drop a r) ∙ ap le16 e ∙ sym (le16_take (drop b s))

  pub le24_piece : piece r a 3 ≡ piece s b 3 → le24 (drop a r) ≡ le24 (drop b s)
  unfolding piece
  le24_piece e = le24_take (drop a r) ∙ ap le24 e ∙ sym (le24_take (drop b s))

  pub le32_piece : piece r a 4 ≡ piece s b 4 → le32 (drop a r) ≡ le32 (drop b s)
  unfolding piece
  le32_piece e = le32_take (drop a r) ∙ ap le32 e ∙ sym (le32_take (drop b s))

  pub le40_piece : piece r a 5 ≡ piece s b 5 → le40 (drop a r) ≡ le40 (drop b s)
  unfolding piece
  le40_piece e = le40_take (drop a r) ∙ ap le40 e ∙ sym (le40_take (drop b s))

  pub byte_piece : piece r a 1 ≡ piece s b 1 → get_or (drop a r) 0 0 ≡ get_or (drop b s) 0 0
  unfolding piece
  byte_piece e = sym (get_or-take 1 (drop a r) 0 0 (omega arith)) ∙ ap (λ (l : List ℕ). get_or l 0 0) e ∙ get_or-take 1 (drop b s) 0 0 (omega arith)

-- ---- four bytes

take_four : (s : List ℕ) → 4 ≤ length s → take 4 s ≡ get_or s 0 0 ∷ get_or s 1 0 ∷ get_or s 2 0 ∷ get_or s 3 0 ∷ []
take_four [] h = absurd (omega arith)
take_four (a ∷ []) h = absurd (omega arith)
take_four (a ∷ b ∷ []) h = absurd (omega arith)
take_four (a ∷ b ∷ c ∷ []) h = absurd (omega arith)
take_four (a ∷ b ∷ c ∷ d ∷ s) h = refl

module _ (s t : List ℕ) (hs : 4 ≤ length s) (ht : 4 ≤ length t) where
  pub four_same : get_or s 0 0 ≡ get_or t 0 0 → get_or s 1 0 ≡ get_or t 1 0 → get_or s 2 0 ≡ get_or t 2 0 → get_or s 3 0 ≡ get_or t 3 0 → true ≡ same (take 4 s) (take 4 t)
  unfolding same pick
  four_same a b c d =
      rw (take_four s hs, take_four t ht, eq-eqb _ _ a, eq-eqb _ _ b, eq-eqb _ _ c, eq-eqb _ _ d)

  pub four_other : (le32 s ≡ le32 t → ⊥) → false ≡ same (take 4 s) (take 4 t)
  unfolding le32
  four_other h = sym (same_false (take 4 s) (take 4 t) (λ e. h (go (sym (take_four s hs) ∙ e ∙ take_four t ht))))
    where
      go : get_or s 0 0 ∷ get_or s 1 0 ∷ get_or s 2 0 ∷ get_or s 3 0 ∷ [] ≡ get_or t 0 0 ∷ get_or t 1 0 ∷ get_or t 2 0 ∷ get_or t 3 0 ∷ [] → le32 s ≡ le32 t
      go e = ap (λ (l : List ℕ). get_or l 0 0 + get_or l 1 0 * 256 + get_or l 2 0 * 65536 + get_or l 3 0 * 16777216) e

-- past bytes that both begin with
same_front : (f s t : List ℕ) → same (f ++ s) (f ++ t) ≡ same s t
unfolding same pick
same_front [] s t = refl
same_front (x ∷ f) s t = rw (eq-eqb x x refl) (same_front f s t)

-- past four bytes that both have
pub same_fours : (s t : List ℕ) (i : ℕ) → i + 4 ≤ length s → i + 4 ≤ length t → same (take 4 (drop i s)) (take 4 (drop i t)) ≡ true
    → same (drop i s) (drop i t) ≡ same (drop (i + 4) s) (drop (i + 4) t)
same_fours s t i hs ht e =
    let q : take 4 (drop i s) ≡ take 4 (drop i t) = same_true _ _ e in
    let l : take 4 (drop i s) ++ drop 4 (drop i s) ≡ drop i s = take-append-drop 4 (drop i s) in
    let r : take 4 (drop i t) ++ drop 4 (drop i t) ≡ drop i t = take-append-drop 4 (drop i t) in
    sym (ap₂ same l r) ∙ rw (q, same_front, drop-drop 4 i s, drop-drop 4 i t)

pub fours_other : (s t : List ℕ) (i : ℕ) → same (take 4 (drop i s)) (take 4 (drop i t)) ≡ false → same s t ≡ false
fours_other s t i e = same_false s t (λ q. let z : same (take 4 (drop i s)) (take 4 (drop i t)) ≡ true = rw q (same_refl (take 4 (drop i t))) in let b : false ≡ true = sym e ∙ z in let n : ◌≡◌ {A = ℕ} 0 1 = cc in omega arith)
