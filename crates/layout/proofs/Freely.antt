-- Bytes laid into a sheet, with what stands behind them free. Assumes nothing.
use Prim.Native.Nat.{ℕ, ◌+◌, ◌-◌, ◌≤◌, ◌<◌}
use mathlib.Core.Path.{◌≡◌, refl, sym, ap, ◌∙◌}
use mathlib.Core.List.{List, [], ◌++◌, append_assoc}
use native.Mathlib.Nat.{zero-add}
use native.Mathlib.Omega.{arith}
use lib.ListN.{length, take, drop, length-append, length-take, length-drop, take-append-drop}
use lib.Seq.{take-take, take_at, take-append-le, take-append-add, length-take-le}
use Rattle.format.specs.Bytes.{over}
use Rattle.format.proofs.Basics.{less_or_not}
use Rattle.format.specs.Sheet.{sheet_version, layout}
use Rattle.format.specs.State.{Record}
use Rattle.layout.proofs.Laws.{front_length, layout_parts, layout_length, part_laid, Laying, none, both}
use Rattle.layout.specs.Fronts.{front_of, front_size, label_of}
use Rattle.layout.specs.Freely.{LaidFreely, Named}
use Rattle.layout.specs.Joined.{Joint}
use Rattle.wire.specs.Laid.{laid, laid_if}
use Rattle.wire.proofs.Laws.{length_over, length_laid, take_laid, laid_zero, laid_none, laid_some}

-- what is laid and leaves all else as it was
pub freely_laid : (d d' s : List ℕ) (k : ℕ) → k + length s ≤ length d → d' ≡ laid d k s → LaidFreely d d' k s
freely_laid d d' s k h e = record {
  kept = ap length e ∙ length_laid d s k h;
  front = λ _. ap (take (k + length s)) e ∙ take_laid d s k (omega arith);
}

-- what has no room is not laid
pub freely_none : (d s : List ℕ) (k : ℕ) → length d < k + length s → LaidFreely d d k s
freely_none d s k h = record { kept = refl; front = λ f. absurd (omega arith) }

pub freely_if : (d d' s : List ℕ) (k : ℕ) → d' ≡ laid_if d k s → LaidFreely d d' k s
freely_if d d' s k e =
    less_or_not (length d) (k + length s)
    (λ h. rw (e ∙ laid_none d s k h) (freely_none d s k h))
    (λ h. freely_laid d d' s k h (e ∙ laid_some d s k h))

-- where more was laid, the front of it was
pub freely_front : (d d' w s t : List ℕ) (k : ℕ) → s ++ t ≡ w → k + length w ≤ length d → LaidFreely d d' k w → LaidFreely d d' k s
freely_front d d' w s t k e h L =
    let n : length s + length t ≡ length w = sym (length-append s t) ∙ ap length e in
    let q : length (take k d) ≡ k = length-take-le k d (omega arith) in
    let m : length (take k d ++ s) ≡ k + length s = length-append (take k d) s ∙ rw q in
    record {
      kept = L.kept;
      front = λ _. sym (take-take (k + length s) (k + length w) d' (omega arith))
          ∙ ap (take (k + length s)) (L.front h ∙ ap (λ (x : List ℕ). take k d ++ x) (sym e) ∙ sym (append_assoc (take k d) s t))
          ∙ take_at (take k d ++ s) t (k + length s) m;
    }

-- fewer bytes of what was laid last
pub freely_fewer : (d d' s a : List ℕ) (k n m : ℕ) → n ≤ m → k + length (s ++ take m a) ≤ length d → LaidFreely d d' k (s ++ take m a)
    → LaidFreely d d' k (s ++ take n a)
freely_fewer d d' s a k n m h f L =
    freely_front d d' (s ++ take m a) (s ++ take n a) (drop n (take m a)) k
    (append_assoc s (take n a) (drop n (take m a))
    ∙ ap (λ (x : List ℕ). s ++ (x ++ drop n (take m a))) (sym (take-take n m a h))
    ∙ ap (λ (x : List ℕ). s ++ x) (take-append-drop n (take m a)))
    f L

-- what was laid over the front of the part from k on was laid into the whole
pub freely_part : (d y s : List ℕ) (k : ℕ) → k + length s ≤ length d → LaidFreely (take (length d - k) (drop k d)) y 0 s
    → LaidFreely d (take k d ++ (y ++ drop (length d - k) (drop k d))) k s
freely_part d y s k h L =
    let r : List ℕ = drop (length d - k) (drop k d) in
    let p : length (take (length d - k) (drop k d)) ≡ length d - k = simp (length-take, length-drop) (omega arith) in
    let z : length r ≡ 0 = simp length-drop (omega arith) in
    let q : length (take k d) ≡ k = length-take-le k d (omega arith) in
    let l : length y ≡ length d - k = L.kept ∙ p in
    let e : take (length s) y ≡ s = ap (λ (n : ℕ). take n y) (sym (zero-add (length s))) ∙ L.front (omega arith) in
    record {
      kept = simp length-append (omega arith);
      front = λ _. ap (λ (n : ℕ). take (n + length s) (take k d ++ (y ++ r))) (sym q)
          ∙ take-append-add (take k d) (y ++ r) (length s)
          ∙ ap (λ (x : List ℕ). take k d ++ x) (take-append-le (length s) y r (omega arith) ∙ e);
    }

-- a record whose label is laid so
pub freely : (r : Record) (L d d' : List ℕ) (at n : ℕ) → label_of r ≡ L → length L ≡ n → Laying LaidFreely r L n d at d'
    → LaidFreely d d' at (layout sheet_version r)
freely r L d _ at n e w (none h) = freely_none d _ at (omega (arith, layout_length r L n e w))
freely r L d _ at n e w (both y d' h ey Z) =
    let F : List ℕ = front_of r n in
    let k : length F ≡ front_size r = front_length r n in
    let m : at + length (layout sheet_version r) ≡ at + front_size r + length L = omega (arith, layout_length r L n e w) in
    let x : List ℕ = take at d ++ (y ++ drop (length d - at) (drop at d)) in
    let f : x ≡ laid d at F = part_laid d F y at (omega arith) ey in
    let l : length x ≡ length d = ap length f ∙ length_laid d F at (omega arith) in
    let t : take (at + front_size r) x ≡ take at d ++ F =
    ap (λ (j : ℕ). take (at + j) x) (sym k) ∙ ap (take (at + length F)) f ∙ take_laid d F at (omega arith) in
    record {
      kept = Z.kept ∙ l;
      front = λ _. ap (λ (j : ℕ). take j d') m
          ∙ Z.front (omega arith)
          ∙ ap (λ (s : List ℕ). s ++ L) t
          ∙ append_assoc (take at d) F L
          ∙ ap (λ (s : List ℕ). take at d ++ s) (layout_parts r L n e w);
    }

-- ---- copies of a fixed size

-- the front of what was laid over the front
over_front : (b d : List ℕ) (n m : ℕ) → n ≤ m → m ≤ length b → take n (over (take m b) d) ≡ take n b
unfolding over
over_front b d n m h i =
    let l : length (take m b) ≡ m = length-take-le m b i in
    take-append-le n (take m b) (drop (length (take m b)) d) (omega arith) ∙ take-take n m b h

-- what is laid over all of the front
pub freely_over : (d d' s : List ℕ) → length s ≤ length d → d' ≡ over s d → LaidFreely d d' 0 s
freely_over d d' s h e = freely_laid d d' s 0 (omega arith) (e ∙ sym (laid_zero d s))

-- 48 bytes of b, and 16 of a laid over them from keep on
pub freely_names : (b a d y z : List ℕ) (keep : ℕ) → 48 ≤ length b → 16 ≤ length a → 64 ≤ length d → keep ≤ 48 → y ≡ over (take 48 b) d
    → z ≡ over (take 16 a) (take (length y - keep) (drop keep y))
    → LaidFreely d (take keep y ++ (z ++ drop (length y - keep) (drop keep y))) 0 (take keep b ++ take 16 a)
freely_names b a d y z keep hb ha hd hk ey ez =
    let A : List ℕ = take 16 a in
    let la : length A ≡ 16 = length-take-le 16 a ha in
    let lb : length (take 48 b) ≡ 48 = length-take-le 48 b hb in
    let lk : length (take keep b) ≡ keep = length-take-le keep b (omega arith) in
    let ly : length y ≡ length d = ap length ey ∙ length_over (take 48 b) d (omega arith) in
    let x : List ℕ = take keep y ++ (z ++ drop (length y - keep) (drop keep y)) in
    let e : x ≡ laid y keep A = part_laid y A z keep (omega arith) ez in
    let n : 0 + length (take keep b ++ A) ≡ keep + length A = simp length-append (omega arith) in
    record {
      kept = ap length e ∙ length_laid y A keep (omega arith) ∙ ly;
      front = λ _. ap (λ (j : ℕ). take j x) n
          ∙ ap (take (keep + length A)) e
          ∙ take_laid y A keep (omega arith)
          ∙ ap (λ (s : List ℕ). s ++ A) (ap (take keep) ey ∙ over_front b d keep 48 hk hb);
    }

-- ---- what the functions need and come to

module _ (d b a : List ℕ) (k keep add : ℕ) (N : Named d k b keep a add) where
  pub added_length : length (take add a) ≡ add
  added_length = length-take-le add a (omega (arith, N.add_few, N.there))

  name_length : (n : ℕ) → n ≤ 16 → length (take keep b ++ take n a) ≡ keep + n
  name_length n h =
      let x : length (take keep b) ≡ keep = length-take-le keep b (omega (arith, N.few, N.whole)) in
      let y : length (take n a) ≡ n = length-take-le n a (omega (arith, N.there)) in
      length-append (take keep b) (take n a) ∙ omega arith

  pub named_joint : (k + (keep + length (take add a)) ≤ length d) × Joint keep (take add a) b
  named_joint =
      let e = added_length in
      (omega (arith, N.room), record { few = N.few; add_few = omega (arith, N.add_few); whole = N.whole })

  pub named_laid : (d' : List ℕ) → d' ≡ laid d k (take keep b ++ take add a) → LaidFreely d d' k (take keep b ++ take add a)
  named_laid d' e =
      let n = name_length add (omega (arith, N.add_few)) in
      freely_laid d d' _ k (omega (arith, N.room)) e

  pub named_over : (y : List ℕ) → k + 64 ≤ length d → keep ≤ 48 → LaidFreely (take (length d - k) (drop k d)) y 0 (take keep b ++ take 16 a)
      → LaidFreely d (take k d ++ (y ++ drop (length d - k) (drop k d))) k (take keep b ++ take add a)
  named_over y h i L =
      let n = name_length 16 (omega arith) in
      freely_fewer d _ (take keep b) a k add 16 (omega (arith, N.add_few)) (omega arith) (freely_part d y (take keep b ++ take 16 a) k (omega arith) L)

-- the first len bytes of a label, of the 48 that are copied
pub label_over : (d b y : List ℕ) (k len : ℕ) → k + 48 ≤ length d → len ≤ 48 → 48 ≤ length b → y ≡ over (take 48 b) (take (length d - k) (drop k d))
    → LaidFreely d (take k d ++ (y ++ drop (length d - k) (drop k d))) k (take len b)
label_over d b y k len h i j e =
    let n : length (take 48 b) ≡ 48 = length-take-le 48 b j in
    let p : length (take (length d - k) (drop k d)) ≡ length d - k = simp (length-take, length-drop) (omega arith) in
    freely_fewer d _ [] b k len 48 i (omega arith)
    (freely_part d y (take 48 b) k (omega arith) (freely_over (take (length d - k) (drop k d)) y (take 48 b) (omega arith) e))
