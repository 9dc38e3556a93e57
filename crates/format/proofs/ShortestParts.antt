-- #105, labels: of all label parts that lead from one label to another, ours is the shortest. Idea: a part that drops d bytes and appends a
-- keeps no more than the two labels have in common, so our D and A are at most d and a; a part does not get shorter when D or A grows, unless
-- both were 0, and so for two labels that differ the longest common start is best. From a label to itself the part is 00 00 00 or has D and A
-- of at least 1: ours, D = A = 1 and one byte to append, is no longer than either. Only the numbers of a part and the bytes appended are counted
-- here; that a leg with the same label needs none is said where items are. Assumes nothing.
use Rattle.std.specs.Prelude.{Option}
use Prim.Native.Nat.{ℕ, zero, suc, ◌+◌, ◌-◌, ◌≤◌, ◌<◌}
use mathlib.Core.Path.{◌≡◌, refl, sym, ap, ◌∙◌}
use mathlib.Core.List.{List, [], ◌∷◌, ◌++◌}
use mathlib.Core.Bool.{Bool, true, false, ◌&&◌, ◌||◌}
use native.Mathlib.Omega.{arith}
use lib.ListN.{length, take, length-append, length-drop}
use lib.Seq.{length-take-le}
use lib.Dec.{eqb, ltb, leb}
use borrow.Author.Tests.{ltb-false, leb-true, lt-ltb, le-ltb, le-leb, eq-eqb}
use Rattle.format.specs.Bytes.{pick, same, to_le32}
use Rattle.format.specs.Label.{Labelled, labelled, appended, label_step}
use Rattle.format.specs.declared.Cut.TheVariants.{Back}
use Rattle.format.specs.Codes.{common, length_codes, part_codes, label_codes, kept_bytes}
use Rattle.format.proofs.Basics.{pick_case, both, less_or_not, same_true}
use Rattle.format.proofs.WritingLaws.{length_codes_lem}

-- ---- `length_codes`: a number takes one byte below 255, else five

pub length_short : (n : ℕ) → n < 255 → length (length_codes n) ≡ 1
unfolding length_codes pick
length_short n h = rw (lt-ltb n 255 h)

length_long : (n : ℕ) → 255 ≤ n → length (length_codes n) ≡ 5
unfolding length_codes to_le32 pick
length_long n h = rw (le-ltb n 255 h)

-- a smaller number takes no more bytes
length_grows : (n m : ℕ) → n ≤ m → length (length_codes n) ≤ length (length_codes m)
length_grows n m h =
    less_or_not m 255 (λ k. omega (arith, length_short n (omega arith), length_short m k)) (λ k. omega (arith, length_codes_lem n, length_long m k))

-- ---- `part_codes`: D and A in one byte, or in the 00 form

either_true : (d a : ℕ) → 0 < d + a → (ltb 0 d || ltb 0 a) ≡ true
either_true d a h = go (ltb 0 d) refl
  where
    go : (b : Bool) → ltb 0 d ≡ b → (b || ltb 0 a) ≡ true
    go true e = refl
    go false e = let k = ltb-false 0 d e in lt-ltb 0 a (omega arith)

pub part_one : (d a : ℕ) → d ≤ 15 → a ≤ 15 → 0 < d + a → length (part_codes d a) ≡ 1
unfolding part_codes pick
part_one d a hd ha h = rw (le-leb d 15 hd, le-leb a 15 ha, either_true d a h)

-- what holds of one byte and of the 00 form holds of a part
part_case : (P : ℕ → Type 0) (d a : ℕ) → (d ≤ 15 → a ≤ 15 → P 1) → P (suc (length (length_codes d) + length (length_codes a))) → P (length (part_codes d a))
unfolding part_codes
part_case P d a f g =
    pick_case (λ (x : List ℕ). P (length x)) _ _ _
    (λ e. let q = both (leb d 15) (leb a 15) (both (leb d 15 && leb a 15) _ e).0 in f (leb-true d 15 q.0) (leb-true a 15 q.1))
    (λ e. rw length-append g)

-- never longer than the 00 form, nor empty
pub part_most : (d a : ℕ) → length (part_codes d a) ≤ 1 + (length (length_codes d) + length (length_codes a))
part_most d a = part_case (λ (x : ℕ). x ≤ 1 + (length (length_codes d) + length (length_codes a))) d a (λ hd ha. omega arith) (omega arith)

part_least : (d a : ℕ) → 1 ≤ length (part_codes d a)
part_least d a = part_case (λ (x : ℕ). 1 ≤ x) d a (λ hd ha. omega arith) (omega arith)

-- dropping and appending less takes no more bytes, unless it is nothing at all
pub part_grows : (D A d a : ℕ) → D ≤ d → A ≤ a → 0 < D + A → length (part_codes D A) ≤ length (part_codes d a)
part_grows D A d a hd ha h =
    part_case (λ (x : ℕ). length (part_codes D A) ≤ x) d a
    (λ kd ka. omega (arith, part_one D A (omega arith) (omega arith) h))
    (omega (arith, part_most D A, length_grows D d hd, length_grows A a ha))

-- which is three bytes
part_none : length (part_codes 0 0) ≡ 3
unfolding part_codes length_codes pick
part_none = refl

-- ---- `common`: the longest common start

-- no more bytes can stay of l than it has in common with what comes of it
pub common_most : (l added : List ℕ) (j : ℕ) → j ≤ length l → j ≤ common l (take j l ++ added)
unfolding common pick
common_most l added zero h = omega arith
common_most [] added (suc j) h = absurd (omega arith)
common_most (x ∷ l) added (suc j) h = rw (eq-eqb x x refl) (let r = common_most l added j (omega arith) in omega arith)

-- of two labels that differ, one is longer than what they have in common
pub common_less : (l m : List ℕ) → same l m ≡ false → 0 < (length l - common l m) + (length m - common l m)
unfolding common same pick
common_less [] [] e = absurd (let z : ◌≡◌ {A = ℕ} 0 1 = cc in omega arith)
common_less [] (y ∷ m) e = omega arith
common_less (x ∷ l) [] e = omega arith
common_less (x ∷ l) (y ∷ m) e = go (eqb x y) e (common_less l m)
  where
    go : (b : Bool) → pick b (same l m) false ≡ false → (same l m ≡ false → 0 < (length l - common l m) + (length m - common l m))
        → 0 < (suc (length l) - pick b (suc (common l m)) 0) + (suc (length m) - pick b (suc (common l m)) 0)
    go true e f = let r = f e in omega arith
    go false e f = omega arith

-- ---- the label part that leads from l to m

-- the bytes of the part that drops d bytes and appends these, its numbers as short as they can be
abbrev pub part_size : ℕ → List ℕ → ℕ
part_size d added = length (part_codes d (length added)) + length added

-- m is l with d bytes dropped and some appended
pub record Steps (l : List ℕ) (d : ℕ) (added m : List ℕ) : Type 0 where
  pub drops : d ≤ length l
  pub gives : m ≡ take (length l - d) l ++ added

-- which is what the label step of such an item says
pub label_steps : (l : List ℕ) (d : ℕ) (added m : List ℕ) → label_step l (Back d) added ≡ labelled m → Steps l d added m
unfolding label_step
label_steps l d added =
    pick_case (λ (x : Option ℕ). (m : List ℕ) → appended x l added ≡ labelled m → Steps l d added m) _ _ _
    (λ e m q. absurd (let z : ◌≡◌ {A = ℕ} 0 1 = cc in omega arith))
    λ e.
    pick_case (λ (x : Labelled). (m : List ℕ) → x ≡ labelled m → Steps l d added m) _ _ _
    (λ f m q. absurd (let z : ◌≡◌ {A = ℕ} 0 1 = cc in omega arith))
    (λ f m q. record { drops = ltb-false _ _ e; gives = cc })

-- what gives a label of n bytes again: D = A = 1, which is shorter than 00 00 00; of an empty one nothing else than that does
again_least : (n d a : ℕ) → d ≤ n → n ≡ (n - d) + a → length (part_codes (n - (n - 1)) (n - (n - 1))) + (n - (n - 1)) ≤ length (part_codes d a) + a
again_least zero d a h e = let x : d ≡ 0 = omega arith in let y : a ≡ 0 = omega arith in rw (x, y) (omega arith)
again_least (suc n) d zero h e =
    let x : d ≡ 0 = omega arith in
    let z : suc n - (suc n - 1) ≡ 1 = omega arith in
    rw (x, z) (omega (arith, part_one 1 1 (omega arith) (omega arith) (omega arith), part_none))
again_least (suc n) d (suc a) h e =
    let z : suc n - (suc n - 1) ≡ 1 = omega arith in
    rw z (omega (arith, part_one 1 1 (omega arith) (omega arith) (omega arith), part_least d (suc a)))

module _ (l : List ℕ) (d : ℕ) (added m : List ℕ) (S : Steps l d added m) where
  kept_most : length l - d ≤ common l m
  kept_most = rw S.gives (common_most l added (length l - d) (omega arith))

  label_length : length m ≡ (length l - d) + length added
  label_length = ap length S.gives ∙ simp (length-append, length-take-le (length l - d) l (omega arith))

  -- a label that differs: the part with the longest common start is the shortest of all that lead from the one label to the other
  pub label_differs : same l m ≡ false → (0 < d + length added) × (length (label_codes l m (common l m)) ≤ part_size d added)
  unfolding label_codes
  label_differs e =
      let D = length l - common l m in
      let A = length m - common l m in
      let f = S.drops in
      let s = kept_most in
      let n = label_length in
      let h : 0 < D + A = common_less l m e in
      let g : length (part_codes D A) ≤ length (part_codes d (length added)) = part_grows D A d (length added) (omega arith) (omega arith) h in
      (omega arith, simp (length-append, length-drop) (omega arith))

  -- the same label: its last byte again, or of an empty one nothing
  label_again : l ≡ m → length (label_codes l m (length l - 1)) ≤ part_size d added
  unfolding label_codes
  label_again e =
      let n : length m ≡ length l = ap length (sym e) in
      let f = S.drops in
      let k = label_length in
      simp (length-append, length-drop, n) (again_least (length l) d (length added) f (omega arith))

  -- the label part of a station or section
  pub label_least : length (label_codes l m (kept_bytes l m)) ≤ part_size d added
  unfolding kept_bytes
  label_least =
      pick_case (λ (k : ℕ). length (label_codes l m k) ≤ part_size d added) _ _ _
      (λ e. label_again (same_true l m e)) (λ e. (label_differs e).1)
