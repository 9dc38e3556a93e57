-- Laws of the label step: the label's bound, once for all versions, the label by what stays, and which dot a label is cut back to. Assumes nothing.
use Rattle.std.specs.Prelude.{Option, Some, None}
use Prim.Native.Nat.{ℕ, suc, ◌+◌, ◌-◌, ◌≤◌, ◌<◌}
use mathlib.Core.Path.{◌≡◌, sym, ◌∙◌}
use mathlib.Core.List.{List, [], ◌∷◌, ◌++◌}
use mathlib.Core.Bool.{Bool, true, false, ◌&&◌}
use native.Mathlib.Omega.{arith}
use lib.ListN.{length, get_or, take, drop, length-append, length-take}
use lib.Seq.{get_or-take, length-take-le}
use lib.Dec.{eqb}
use borrow.Author.Tests.{ltb-true, ltb-false, lt-ltb, le-ltb, eqb-true, eqb-false, eq-eqb}
use Rattle.format.specs.Bytes.{pick}
use Rattle.format.specs.Label.{dots, dot_from, kept_to_dot, kept_of, Labelled, too_short, too_long, labelled, appended, label_step, label_limit}
use Rattle.format.specs.declared.Cut.{Cut}
use Rattle.format.specs.declared.Cut.TheVariants.{Back}
use Rattle.format.proofs.Basics.{pick_case, both}

-- ---- the bound

abbrev pub ShortLabelled : Labelled → Type 0
ShortLabelled too_short = Unit
ShortLabelled too_long = Unit
ShortLabelled (labelled l) = length l ≤ label_limit

short_appended : (x : Option ℕ) (l added : List ℕ) → ShortLabelled (appended x l added)
short_appended (Some k) l added =
    pick_case ShortLabelled _ _ _ (λ e. tt) λ e.
    let z : k + length added ≤ label_limit = ltb-false _ _ e in
    simp (length-append, length-take) (omega arith)
short_appended None l added = tt

-- whatever the version and the item, a label that the step gives has at most 4,096 bytes
pub label_bound : (l : List ℕ) (cut : Cut) (added : List ℕ) → ShortLabelled (label_step l cut added)
unfolding label_step
label_bound l cut added = short_appended (kept_of l cut) l added

-- ---- the label after a step, by what stays of the one before

module _ (l : List ℕ) (cut : Cut) (added : List ℕ) where
  pub step_short : kept_of l cut ≡ None → label_step l cut added ≡ too_short
  unfolding label_step
  step_short e = rw e

  module _ (k : ℕ) (e : kept_of l cut ≡ Some k) where
    pub step_long : label_limit < k + length added → label_step l cut added ≡ too_long
    unfolding label_step pick
    step_long h = rw e (simp (lt-ltb _ _ h))

    pub step_fits : k + length added ≤ label_limit → label_step l cut added ≡ labelled (take k l ++ added)
    unfolding label_step pick
    step_fits h = rw e (simp (le-ltb _ _ h))

-- "D bytes to drop"
module _ (l : List ℕ) (d : ℕ) where
  pub back_lacks : length l < d → kept_of l (Back d) ≡ None
  unfolding pick
  back_lacks h = simp (lt-ltb _ _ h)

  pub back_keeps : d ≤ length l → kept_of l (Back d) ≡ Some (length l - d)
  unfolding pick
  back_keeps h = simp (le-ltb _ _ h)

-- ---- the Nth dot from the end

-- of k bytes and then s: j bytes stay, the last of them a dot of s, with n dots from it to the end
pub record AtDot (n k : ℕ) (s : List ℕ) (j : ℕ) : Type 0 where
  pub from : k < j
  pub within : j ≤ k + length s
  pub dot : get_or s (j - (k + 1)) 0 ≡ 46
  pub nth : dots (drop (j - (k + 1)) s) ≡ n

-- none stays where s has fewer than n dots
abbrev pub KeptDot : ℕ → ℕ → List ℕ → Option ℕ → Type 0
KeptDot n k s (Some j) = AtDot n k s j
KeptDot n k s None = 0 < n → dots s < n

dot_here : (n k b : ℕ) (s : List ℕ) → b ≡ 46 → dots s + 1 ≡ n → AtDot n k (b ∷ s) (k + 1)
unfolding dots pick
dot_here n k b s e d =
    let z : k + 1 - (k + 1) ≡ 0 = omega arith in
    record { from = omega arith; within = omega arith; dot = rw z e; nth = rw (z, eq-eqb b 46 e) d }

-- one more byte that is not the dot sought
dots_fewer : (n b : ℕ) (s : List ℕ) → (eqb b 46 && eqb (dots s + 1) n) ≡ false → dots s < n → dots (b ∷ s) < n
unfolding dots pick
dots_fewer n b s e h = go (eqb b 46) e
  where
    go : (t : Bool) → (t && eqb (dots s + 1) n) ≡ false → pick t (dots s + 1) (dots s) < n
    go true e = let z = eqb-false (dots s + 1) n e in omega (arith, z)
    go false e = h

dot_further : (n k b : ℕ) (s : List ℕ) (x : Option ℕ) → (eqb b 46 && eqb (dots s + 1) n) ≡ false → KeptDot n (k + 1) s x → KeptDot n k (b ∷ s) x
dot_further n k b s (Some j) e a =
    let h = a.from in
    let w = a.within in
    let z : j - (k + 1) ≡ suc (j - (k + 1 + 1)) = omega arith in
    record { from = omega arith; within = omega arith; dot = rw z a.dot; nth = rw z a.nth }
dot_further n k b s None e a = λ h. dots_fewer n b s e (a h)

pub dot_from_lem : (n k : ℕ) (s : List ℕ) → KeptDot n k s (dot_from n k s)
unfolding dot_from dots
dot_from_lem n k [] = λ h. h
dot_from_lem n k (b ∷ s) =
    let r = dot_from_lem n (k + 1) s in
    pick_case (KeptDot n k (b ∷ s)) _ _ _ (λ e.
    (let p = both (eqb b 46) (eqb (dots s + 1) n) e in dot_here n k b s (eqb-true b 46 p.0) (eqb-true (dots s + 1) n p.1)))
    (λ e. dot_further n k b s (dot_from n (k + 1) s) e r)

-- what 01-0e leave: the bytes up to a dot that is not among the 16 dropped, with N dots from it to the last byte that was not dropped
pub record AfterSixteen (l : List ℕ) (n j : ℕ) : Type 0 where
  pub dropped : j + 16 ≤ length l
  pub dot : get_or l (j - 1) 0 ≡ 46
  pub nth : dots (drop (j - 1) (take (length l - 16) l)) ≡ n

-- 6 is due only where "the bytes left after dropping 16" hold fewer than N dots; of fewer than 16 bytes none are left
abbrev pub KeptAfterSixteen : List ℕ → ℕ → Option ℕ → Type 0
KeptAfterSixteen l n (Some j) = AfterSixteen l n j
KeptAfterSixteen l n None = 0 < n → dots (take (length l - 16) l) < n

after_sixteen : (l : List ℕ) (n : ℕ) (x : Option ℕ) → 16 ≤ length l → KeptDot n 0 (take (length l - 16) l) x → KeptAfterSixteen l n x
after_sixteen l n (Some j) h a =
    let m = length l - 16 in
    let e : length (take m l) ≡ m = length-take-le m l (omega arith) in
    let f = a.from in
    let w = a.within in
    let z : j - (0 + 1) ≡ j - 1 = omega arith in
    let d : get_or (take m l) (j - 1) 0 ≡ 46 = rw z at a.dot in
    record { dropped = omega arith; dot = sym (get_or-take m l (j - 1) 0 (omega arith)) ∙ d; nth = rw z at a.nth }
after_sixteen l n None h a = a

few_left : (l : List ℕ) (n : ℕ) → length l < 16 → 0 < n → dots (take (length l - 16) l) < n
unfolding dots
few_left l n h k = let z : length l - 16 ≡ 0 = omega arith in rw z k

pub kept_to_dot_lem : (l : List ℕ) (n : ℕ) → KeptAfterSixteen l n (kept_to_dot l n)
unfolding kept_to_dot
kept_to_dot_lem l n =
    pick_case (KeptAfterSixteen l n) _ _ _ (λ e. few_left l n (ltb-true _ _ e))
    λ e. after_sixteen l n (dot_from n 0 (take (length l - 16) l)) (ltb-false _ _ e) (dot_from_lem n 0 (take (length l - 16) l))
