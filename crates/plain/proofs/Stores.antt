-- Bytes stored one behind the other over the front of a list. Assumes nothing.
use Prim.Native.Nat.{ℕ, ◌+◌, ◌-◌, ◌*◌, ◌/◌, ◌%◌, ◌≤◌, ◌<◌}
use mathlib.Core.Path.{◌≡◌, refl, sym, ap, ◌∙◌}
use mathlib.Core.List.{List, [], ◌∷◌, ◌++◌}
use native.Mathlib.Omega.{arith}
use lib.ListN.{length, take, drop, length-append}
use Rattle.format.specs.Bytes.{to_le16, to_le32, over}
use Rattle.part.specs.Lays.{Puts}
use Rattle.wire.specs.Laid.{laid}
use Rattle.wire.proofs.Laws.{laid_zero, laid_part, laid_next, length_over}
use Rattle.plain.specs.Plainly.{tail_of, tail_size}
use Rattle.plain.specs.declared.Form.{Form}
use Rattle.plain.specs.declared.Form.TheVariants.{Leg, Station, Narrow, Wide}

-- w, laid over the part of Y from k on, where Y is d with k bytes laid over its front
pub over_next : (d Y Z X w : List ℕ) (k : ℕ) → Y ≡ over X d → length X ≡ k → Z ≡ over w (take (length Y - k) (drop k Y)) → k ≤ length d
    → take k Y ++ (Z ++ drop (length Y - k) (drop k Y)) ≡ over (X ++ w) d
over_next d Y Z X w k eY ek eZ h =
    let ly : length Y ≡ length d = ap length eY ∙ length_over X d (omega (arith, ek)) in
    let z : 0 + length X ≡ k = omega (arith, ek) in
    rw eZ
    (laid_part Y w k (omega (arith, ly)) (length Y) refl
    ∙ ap (λ (y : List ℕ). laid y k w) (eY ∙ sym (laid_zero d X))
    ∙ ap (λ (j : ℕ). laid (laid d 0 X) j w) (sym z)
    ∙ laid_next d X w 0 (omega arith)
    ∙ laid_zero d (X ++ w))

pub four_long : (n : ℕ) → length (to_le32 n) ≡ 4
unfolding to_le32
four_long n = refl

-- what ends the codes has its size
pub tail_long : (form : Form) (s : List ℕ) → length (tail_of form s) ≡ tail_size form
unfolding to_le16 to_le32
tail_long Leg s = refl
tail_long Station s = refl
tail_long Narrow s = refl
tail_long Wide s = refl

-- two numbers of 16 bits make one of 32
pub paired : (a b : ℕ) → to_le32 (a % 65536 + b % 65536 * 65536) ≡ to_le16 a ++ to_le16 b
unfolding to_le16 to_le32
paired a b =
    let r : ℕ = a % 65536 + b % 65536 * 65536 in
    let q : r / 65536 ≡ b % 65536 = omega arith in
    let e0 : r % 256 ≡ a % 256 = omega arith in
    let v : a / 256 ≡ 256 * (a / 65536) + a % 65536 / 256 = omega arith in
    let u : a / 256 % 256 ≡ a % 65536 / 256 = rw v (omega arith) in
    let p : r / 256 ≡ a % 65536 / 256 + 256 * (b % 65536) = omega arith in
    let e1 : r / 256 % 256 ≡ a / 256 % 256 = rw (p, u) (omega arith) in
    let e2 : r / 65536 % 256 ≡ b % 256 = rw q (omega arith) in
    let v' : b / 256 ≡ 256 * (b / 65536) + b % 65536 / 256 = omega arith in
    let u' : b / 256 % 256 ≡ b % 65536 / 256 = rw v' (omega arith) in
    let p' : r / 16777216 ≡ b % 65536 / 256 = omega (arith, q) in
    let e3 : r / 16777216 % 256 ≡ b / 256 % 256 = rw (p', u') (omega arith) in
    rw (e0, e1, e2, e3)

-- ---- the codes

pub tail_most : (form : Form) → tail_size form ≤ 16
tail_most Leg = omega arith
tail_most Station = omega arith
tail_most Narrow = omega arith
tail_most Wide = omega arith

module _ (d : List ℕ) (code part : ℕ) (added : List ℕ) (form : Form) (s : List ℕ) (few : length added ≤ 15) where
  abbrev X : List ℕ
  X = code ∷ part ∷ (added ++ tail_of form s)

  abbrev n : ℕ
  n = 2 + length added + tail_size form

  long : n ≡ length X
  long = let t = tail_long form s in simp length-append (omega (arith, t))

  most : n ≤ 33
  most = omega (arith, tail_most form)

  -- they do not fit
  pub puts_none : length d < n → Puts d d X 33 n
  puts_none h = record { size = long; most = most; kept = refl; written = λ k. absurd (omega arith) }

  -- they do
  pub puts_all : (d' : List ℕ) → n ≤ length d → d' ≡ over X d → Puts d d' X 33 n
  puts_all d' h e = let l = long in record { size = l; most = most; kept = ap length e ∙ length_over X d (omega (arith, l)); written = λ k. e }

  -- piece after piece
  module _ (Y Z W : List ℕ) (h : n ≤ length d) (eY : Y ≡ over (code ∷ part ∷ []) d) (eZ : Z ≡ over added (take (length Y - 2) (drop 2 Y))) where
    abbrev Y' : List ℕ
    Y' = take 2 Y ++ (Z ++ drop (length Y - 2) (drop 2 Y))

    begun : Y' ≡ over (code ∷ part ∷ added) d
    begun = over_next d Y Z (code ∷ part ∷ []) added 2 eY refl eZ (omega arith)

    pub begun_long : length Y' ≡ length d
    begun_long = ap length begun ∙ length_over (code ∷ part ∷ added) d (omega arith)

    pub pieces : W ≡ over (tail_of form s) (take (length Y' - (2 + length added)) (drop (2 + length added) Y'))
        → take (2 + length added) Y' ++ (W ++ drop (length Y' - (2 + length added)) (drop (2 + length added) Y')) ≡ over X d
    pieces eW = over_next d Y' W (code ∷ part ∷ added) (tail_of form s) (2 + length added) begun (omega arith) eW (omega arith)
