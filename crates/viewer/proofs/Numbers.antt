-- Numbers written over the front of a list of f32, and behind others. Assumes nothing.
use Prim.Native.Nat.{ℕ, ◌+◌, ◌-◌, ◌≤◌}
use mathlib.Core.Path.{◌≡◌, refl, sym, ap, ◌∙◌}
use mathlib.Core.List.{List, [], ◌∷◌, ◌++◌, map, append_assoc, append-nil}
use native.Mathlib.Omega.{arith}
use borrow.Author.Rules.{part_to_end}
use lib.ListN.{length, set, take, drop, length-append, length-drop, length-map}
use lib.Seq.{drop-drop, take_at, drop_at, drop-length, length-take-le}
use lib.IntN.{ℤ}
use lib.Ieee.{Float}
use Rattle.format.specs.Viewer.{number_of, numbers_over}

-- three numbers, one after the other
three_over : (d : List Float) (a b c : ℤ) → 3 ≤ length d → set (set (set d 0 (number_of a)) 1 (number_of b)) 2 (number_of c) ≡ numbers_over (a ∷ b ∷ c ∷ []) d
unfolding numbers_over
three_over [] a b c h = absurd (omega arith)
three_over (x ∷ []) a b c h = absurd (omega arith)
three_over (x ∷ y ∷ []) a b c h = absurd (omega arith)
three_over (x ∷ y ∷ z ∷ d) a b c h = refl

pub three_put : (d : List Float) (a b c : ℤ) {x y z : Float} → 3 ≤ length d → x ≡ number_of a → y ≡ number_of b → z ≡ number_of c
    → set (set (set d 0 x) 1 y) 2 z ≡ numbers_over (a ∷ b ∷ c ∷ []) d
three_put d a b c h e f g = rw (e, f, g) (three_over d a b c h)

map_append : (a b : List ℤ) → map number_of (a ++ b) ≡ map number_of a ++ map number_of b
map_append [] b = refl
map_append (x ∷ a) b = ap (λ (r : List Float). number_of x ∷ r) (map_append a b)

length_over : (zs : List ℤ) (d : List Float) → length zs ≤ length d → length (numbers_over zs d) ≡ length d
unfolding numbers_over
length_over zs d h = simp (length-append, length-map, length-drop) (omega arith)

pub length_behind : (d : List Float) (zs : List ℤ) (k : ℕ) → k + length zs ≤ length d → length (take k d ++ numbers_over zs (drop k d)) ≡ length d
length_behind d zs k h =
    let l = length-drop k d in
    length-append (take k d) (numbers_over zs (drop k d)) ∙ rw (length-take-le k d (omega arith), length_over zs (drop k d) (omega arith), l) (omega arith)

-- what comes back of a part from k on
pub over_part : (d : List Float) (zs : List ℤ) (k n : ℕ) → n ≡ length d
    → take k d ++ (numbers_over zs (take (n - k) (drop k d)) ++ drop (n - k) (drop k d)) ≡ take k d ++ numbers_over zs (drop k d)
over_part d zs k n e = rw (e, part_to_end, ← length-drop k d, drop-length (drop k d), append-nil)

-- one after the other is both together
pub over_next : (d d' : List Float) (a b : List ℤ) (k : ℕ) → k ≤ length d → d' ≡ take k d ++ numbers_over a (drop k d)
    → take (k + length a) d' ++ numbers_over b (drop (k + length a) d') ≡ take k d ++ numbers_over (a ++ b) (drop k d)
unfolding numbers_over
over_next d d' a b k h e =
    let A = map number_of a in
    let front : d' ≡ (take k d ++ A) ++ drop (length a) (drop k d) = e ∙ sym (append_assoc (take k d) A (drop (length a) (drop k d))) in
    let l : length (take k d ++ A) ≡ k + length a = simp (length-append, length-map, length-take-le k d h) in
    let t = take_at (take k d ++ A) (drop (length a) (drop k d)) (k + length a) l in
    let u = drop_at (take k d ++ A) (drop (length a) (drop k d)) (k + length a) l in
    let r : drop (length b) (drop (length a) (drop k d)) ≡ drop (length (a ++ b)) (drop k d) =
    drop-drop (length b) (length a) (drop k d) ∙ ap (λ (n : ℕ). drop n (drop k d)) (sym (length-append a b)) in
    rw (front, t, u, r, map_append a b) (simp append_assoc)
