-- Laws of lists that code over slices shares: what is laid over the front of a list, what is laid in from an index on,
-- and a turn of a comparison and of a search for a linefeed. Assumes nothing.
use mathlib.Core.Path.{◌≡◌, refl, sym, ap, ap₂, ◌∙◌}
use mathlib.Core.List.{List, [], ◌∷◌, ◌++◌, append_assoc, append-nil}
use mathlib.Core.Bool.{Bool, true, false, ◌&&◌}
use lib.Dec.{eqb}
use Rattle.std.specs.Cmp.Lexicographic.{pointwise}
use Prim.Native.Nat.{ℕ, suc, ◌+◌, ◌-◌, ◌≤◌, ◌<◌, min}
use native.Mathlib.Nat.{le_of_lt, add-zero, zero-add, add_assoc}
use native.Mathlib.Numerals.{add-one}
use native.Mathlib.Omega.{arith}
use borrow.Author.Rules.{part_to_end}
use borrow.Author.Tests.{eq-eqb, ne_eqb, lt-ltb, le-ltb}
use lib.ListN.{set, length, take, drop, get_or, length-append, length-take, length-drop, take-append-drop}
use lib.Seq.{drop-drop, drop-append-le, drop-append-add, take-take, take-add, take-append-le, take-length, take_at, drop_at, drop-length, drop-cons}
use lib.Seq.{take-suc, append_snoc, set_at, length-take-le}
use Rattle.format.specs.Bytes.{pick, over, same}
use Rattle.format.proofs.Basics.{pick_case, same_true}
use Rattle.format.proofs.WritingLaws.{common_take}
use Rattle.format.specs.Header.{line_end}
use Rattle.format.specs.Codes.{common}
use Rattle.wire.specs.Laid.{laid, laid_if}

-- ---- a part of no bytes

-- what a function that was lent none leaves before the rest
pub none_before : (y old : List ℕ) → length y ≡ 0 → y ++ old ≡ old
none_before [] old h = refl
none_before (a ∷ y) old h = absurd (omega arith)

-- ---- `copy` and `over`

pub copy_step : (s d : List ℕ) (i : ℕ) → i < length s → i < length d → set (take i s ++ drop i d) i (get_or s i 0) ≡ take (i + 1) s ++ drop (i + 1) d
copy_step s d i hs hd =
    rw (add-one i, drop-cons d i 0, take-suc s i 0, append_snoc)
    (set_at (take i s) (get_or d i 0) (drop (suc i) d) (get_or s i 0) i (length-take-le i s (le_of_lt hs)))

pub length_over : (s b : List ℕ) → length s ≤ length b → length (over s b) ≡ length b
unfolding over
length_over s b h = simp (length-append, length-drop) (omega arith)

-- nothing laid over
pub over_none : (s d : List ℕ) → d ≡ over (take 0 s) d
unfolding over
over_none s d = refl

-- ---- `laid`

pub laid_nil : (d : List ℕ) (k : ℕ) → laid d k [] ≡ d
unfolding laid
laid_nil d k = rw (add-zero, take-append-drop)

pub laid_zero : (d s : List ℕ) → laid d 0 s ≡ over s d
unfolding laid over
laid_zero d s = rw zero-add

module _ (d s : List ℕ) (k : ℕ) (h : k ≤ length d) where
  head_length : length (take k d ++ s) ≡ k + length s
  head_length = simp (length-append, length-take-le k d h)

  pub take_laid : take (k + length s) (laid d k s) ≡ take k d ++ s
  unfolding laid
  take_laid = rw (← append_assoc (take k d) s (drop (k + length s) d)) (take_at (take k d ++ s) (drop (k + length s) d) (k + length s) head_length)

  pub drop_laid : drop (k + length s) (laid d k s) ≡ drop (k + length s) d
  unfolding laid
  drop_laid = rw (← append_assoc (take k d) s (drop (k + length s) d)) (drop_at (take k d ++ s) (drop (k + length s) d) (k + length s) head_length)

  -- what comes back of a part from k on, over which s was laid
  pub laid_part : (n : ℕ) → n ≡ length d → take k d ++ (over s (take (n - k) (drop k d)) ++ drop (n - k) (drop k d)) ≡ laid d k s
  unfolding laid over
  laid_part n e =
      rw (e, part_to_end, drop-drop (length s) k d, ← length-drop k d, drop-length (drop k d), append-nil)

pub length_laid : (d s : List ℕ) (k : ℕ) → k + length s ≤ length d → length (laid d k s) ≡ length d
unfolding laid
length_laid d s k h = simp (length-append, length-take, length-drop) (omega arith)

-- what is laid into the first b bytes is laid into the whole
pub laid_within : (d s : List ℕ) (k b : ℕ) → k + length s ≤ b → b ≤ length d → laid (take b d) k s ++ drop b d ≡ laid d k s
unfolding laid
laid_within d s k b h j =
    let n = length-take-le b d j in
    let e : drop (k + length s) d ≡ drop (k + length s) (take b d) ++ drop b d = ap (drop (k + length s)) (sym (take-append-drop b d))
    ∙ drop-append-le (k + length s) (take b d) (drop b d) (omega arith) in
    simp append_assoc (rw (take-take k b d (omega arith), e))

pub over_within : (d s : List ℕ) (b : ℕ) → length s ≤ b → b ≤ length d → over s (take b d) ++ drop b d ≡ over s d
over_within d s b h j = rw (← (laid_zero (take b d) s), ← (laid_zero d s)) (laid_within d s 0 b (omega arith) j)

-- one thing laid after another is both laid together
pub laid_next : (d s t : List ℕ) (k : ℕ) → k ≤ length d → laid (laid d k s) (k + length s) t ≡ laid d k (s ++ t)
unfolding laid
laid_next d s t k h =
    ap₂ (λ (x y : List ℕ). x ++ (t ++ y)) (take_laid d s k h)
    (sym (drop-drop (length t) (k + length s) (laid d k s)) ∙ ap (drop (length t)) (drop_laid d s k h) ∙ drop-drop (length t) (k + length s) d)
    ∙ simp (append_assoc, length-append, add_assoc)

-- ---- parts that overlap: bytes of s from k on, laid over a front of s that reaches to w

pub lap : (s d : List ℕ) (w k m : ℕ) → k ≤ w → w ≤ k + m → k + m ≤ length s → k + m ≤ length d
    → laid (over (take w s) d) k (take m (drop k s)) ≡ over (take (k + m) s) d
unfolding laid over
lap s d w k m h1 h2 h3 h4 =
    let W = take w s in
    let lw : length W ≡ w = length-take-le w s (omega arith) in
    let lm : length (take m (drop k s)) ≡ m = length-take-le m (drop k s) (simp length-drop (omega arith)) in
    let ln : length (take (k + m) s) ≡ k + m = length-take-le (k + m) s h3 in
    let e1 : take k (W ++ drop w d) ≡ take k s = take-append-le k W (drop w d) (omega arith) ∙ take-take k w s h1 in
    let z : k + m ≡ length W + (k + m - w) = omega arith in
    let y : w + (k + m - w) ≡ k + m = omega arith in
    let e2 : drop (k + m) (W ++ drop w d) ≡ drop (k + m) d =
    ap (λ (n : ℕ). drop n (W ++ drop w d)) z ∙ drop-append-add W (drop w d) (k + m - w) ∙ drop-drop (k + m - w) w d ∙ ap (λ (n : ℕ). drop n d) y in
    rw (lw, lm, e1, e2, ln, take-add k m s) (simp append_assoc)

-- the same, as two copies one after the other leave it
pub laps : (s d Y Z : List ℕ) (w k m n : ℕ) → Y ≡ over (take w s) d → Z ≡ over (take m (take (length s - k) (drop k s))) (take (length Y - k) (drop k Y))
    → k ≤ w → w ≤ n → k + m ≡ n → n ≤ length s → n ≤ length d → take k Y ++ (Z ++ drop (length Y - k) (drop k Y)) ≡ over (take n s) d
laps s d Y Z w k m n eY eZ h1 h2 e h3 h4 =
    let lw : length (take w s) ≡ w = length-take-le w s (omega arith) in
    let ly : length Y ≡ length d = ap length eY ∙ length_over (take w s) d (omega arith) in
    rw (eZ, part_to_end s k)
    (laid_part Y (take m (drop k s)) k (omega arith) (length Y) refl
    ∙ ap (λ (y : List ℕ). laid y k (take m (drop k s))) eY
    ∙ lap s d w k m h1 (omega arith) (omega arith) (omega arith)
    ∙ ap (λ (j : ℕ). over (take j s) d) e)

pub laps_all : (s d Y Z : List ℕ) (w k m : ℕ) → Y ≡ over (take w s) d → Z ≡ over (take m (take (length s - k) (drop k s))) (take (length Y - k) (drop k Y))
    → k ≤ w → w ≤ length s → k + m ≡ length s → length s ≤ length d → take k Y ++ (Z ++ drop (length Y - k) (drop k Y)) ≡ over s d
laps_all s d Y Z w k m eY eZ h1 h2 e h4 =
    laps s d Y Z w k m (length s) eY eZ h1 h2 e (omega arith) h4 ∙ rw take-length

-- m bytes at the start and m at the end, of at most twice as many
pub laps_ends : (s d Y Z : List ℕ) (m : ℕ) → Y ≡ over (take m s) d
    → Z ≡ over (take m (take (length s - (length s - m)) (drop (length s - m) s))) (take (length Y - (length s - m)) (drop (length s - m) Y))
    → m ≤ length s → length s ≤ m + m → length s ≤ length d → take (length s - m) Y ++ (Z ++ drop (length Y - (length s - m)) (drop (length s - m) Y)) ≡ over
    s d
laps_ends s d Y Z m eY eZ h1 h2 h3 = laps_all s d Y Z m (length s - m) m eY eZ (omega arith) h1 (omega arith) h3

-- no bytes
pub nothing_over : (s d : List ℕ) → length s ≡ 0 → d ≡ over s d
unfolding over
nothing_over [] d e = refl
nothing_over (x ∷ s) d e = absurd (omega arith)

-- two stores one after the other
pub stored_2 : (s d : List ℕ) → length s ≡ 2 → length s ≤ length d → set (set d 0 (get_or s 0 0)) 1 (get_or s 1 0) ≡ over s d
unfolding over
stored_2 [] d e h = absurd (omega arith)
stored_2 (x0 ∷ []) d e h = absurd (omega arith)
stored_2 (x0 ∷ x1 ∷ []) [] e h = absurd (omega arith)
stored_2 (x0 ∷ x1 ∷ []) (y0 ∷ []) e h = absurd (omega arith)
stored_2 (x0 ∷ x1 ∷ []) (y0 ∷ y1 ∷ d) e h = refl
stored_2 (x0 ∷ x1 ∷ x2 ∷ s) d e h = absurd (omega arith)

-- ---- `laid_if`

module _ (d s : List ℕ) (k : ℕ) where
  pub laid_none : length d < k + length s → laid_if d k s ≡ d
  unfolding laid_if pick
  laid_none h = simp (lt-ltb _ _ h)

  pub laid_some : k + length s ≤ length d → laid_if d k s ≡ laid d k s
  unfolding laid_if pick
  laid_some h = simp (le-ltb _ _ h)

-- ---- `same`

and_pick : (b c : Bool) → (b && c) ≡ pick b c false
unfolding pick
and_pick true c = refl
and_pick false c = refl

-- what `==` on slices says
pub same_pointwise : (s t : List ℕ) → pointwise eqb s t ≡ same s t
unfolding same
same_pointwise [] [] = refl
same_pointwise [] (y ∷ t) = refl
same_pointwise (x ∷ s) [] = refl
same_pointwise (x ∷ s) (y ∷ t) = ap (λ (b : Bool). eqb x y && b) (same_pointwise s t) ∙ and_pick (eqb x y) (same s t)

pub same_false : (s t : List ℕ) → (s ≡ t → ⊥) → same s t ≡ false
same_false s t h = go (same s t) refl
  where
    go : (b : Bool) → same s t ≡ b → b ≡ false
    go true e = absurd (h (same_true s t e))
    go false e = refl

-- past a byte that both have
pub same_past : (s t : List ℕ) (i : ℕ) → i < length s → i < length t → get_or s i 0 ≡ get_or t i 0
    → same (drop i s) (drop i t) ≡ same (drop (i + 1) s) (drop (i + 1) t)
unfolding same pick
same_past s t i hs ht e = rw (add-one i, drop-cons s i 0, drop-cons t i 0, eq-eqb _ _ e)

pub same_other : (s t : List ℕ) (i : ℕ) → (get_or s i 0 ≡ get_or t i 0 → ⊥) → same s t ≡ false
same_other s t i h = same_false s t (λ e. h (ap (λ (l : List ℕ). get_or l i 0) e))

-- ---- `common`

pub common_past : (s t : List ℕ) (i : ℕ) → i < length s → i < length t → get_or s i 0 ≡ get_or t i 0
    → common (drop i s) (drop i t) ≡ 1 + common (drop (i + 1) s) (drop (i + 1) t)
unfolding common pick
common_past s t i hs ht e = rw (add-one i, drop-cons s i 0, drop-cons t i 0, eq-eqb _ _ e) (omega arith)

-- past bytes that both begin with
pub common_front : (f s t : List ℕ) → common (f ++ s) (f ++ t) ≡ length f + common s t
unfolding common pick
common_front [] s t = omega arith
common_front (x ∷ f) s t = rw (eq-eqb x x refl) (let e = common_front f s t in omega arith)

-- past k bytes of eight
pub common_eights : (s t : List ℕ) (i k : ℕ) → i + 8 ≤ length s → i + 8 ≤ length t → k ≤ 8 → k ≤ common (take 8 (drop i s)) (take 8 (drop i t))
    → common (drop i s) (drop i t) ≡ k + common (drop (i + k) s) (drop (i + k) t)
common_eights s t i k hs ht h8 h =
    let c : ℕ = common (take 8 (drop i s)) (take 8 (drop i t)) in
    let e : take k (take 8 (drop i s)) ≡ take k (take 8 (drop i t)) =
    sym (take-take k c (take 8 (drop i s)) h) ∙ ap (take k) (common_take (take 8 (drop i s)) (take 8 (drop i t))) ∙ take-take k c (take 8 (drop i t)) h in
    let q : take k (drop i s) ≡ take k (drop i t) = sym (take-take k 8 (drop i s) h8) ∙ e ∙ take-take k 8 (drop i t) h8 in
    let n : length (take k (drop i t)) ≡ k = length-take-le k (drop i t) (simp length-drop (omega arith)) in
    let l : take k (drop i s) ++ drop k (drop i s) ≡ drop i s = take-append-drop k (drop i s) in
    let r : take k (drop i t) ++ drop k (drop i t) ≡ drop i t = take-append-drop k (drop i t) in
    sym (ap₂ common l r) ∙ rw (q, common_front, n, drop-drop k i s, drop-drop k i t)

pub common_here : (s t : List ℕ) (i : ℕ) → i < length s → i < length t → (get_or s i 0 ≡ get_or t i 0 → ⊥) → common (drop i s) (drop i t) ≡ 0
unfolding common pick
common_here s t i hs ht e = rw (drop-cons s i 0, drop-cons t i 0, ne_eqb _ _ e)

-- nothing is left of one of them
pub common_spent : (s t : List ℕ) → min (length s) (length t) ≡ 0 → common s t ≡ 0
unfolding common
common_spent [] t h = refl
common_spent (x ∷ s) [] h = refl
common_spent (x ∷ s) (y ∷ t) h = absurd (omega arith)

-- no more bytes are common than either has
pub common_within : (s t : List ℕ) → (common s t ≤ length s) × (common s t ≤ length t)
unfolding common
common_within [] t = (omega arith, omega arith)
common_within (x ∷ s) [] = (omega arith, omega arith)
common_within (x ∷ s) (y ∷ t) =
    let r = common_within s t in
    pick_case (λ (n : ℕ). (n ≤ suc (length s)) × (n ≤ suc (length t))) _ _ _ (λ e. (omega arith, omega arith)) (λ e. (omega arith, omega arith))

-- ---- `line_end`

pub line_past : (s : List ℕ) (i : ℕ) → i < length s → (get_or s i 0 ≡ 10 → ⊥) → line_end (drop i s) ≡ 1 + line_end (drop (i + 1) s)
unfolding line_end pick
line_past s i h e = rw (add-one i, drop-cons s i 0, ne_eqb _ _ e) (omega arith)

pub line_here : (s : List ℕ) (i : ℕ) → i < length s → get_or s i 0 ≡ 10 → line_end (drop i s) ≡ 0
unfolding line_end pick
line_here s i h e = rw (drop-cons s i 0, eq-eqb _ _ e)

pub line_none : (s : List ℕ) → length s ≡ 0 → line_end s ≡ 0
unfolding line_end
line_none [] h = refl
line_none (x ∷ s) h = absurd (omega arith)

-- a line ends within
pub line_within : (s : List ℕ) → line_end s ≤ length s
unfolding line_end
line_within [] = omega arith
line_within (b ∷ s) =
    let r = line_within s in
    pick_case (λ (n : ℕ). n ≤ suc (length s)) _ _ _ (λ e. omega arith) (λ e. omega arith)
