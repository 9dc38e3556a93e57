-- What stays of the first len bytes of a buffer, and the label after a step, on plain values. Assumes nothing.
use Rattle.std.specs.Prelude.{Option, Some, None}
use mathlib.Core.Path.{◌≡◌, sym, ap, ◌∙◌}
use mathlib.Core.List.{List}
use Prim.Native.Nat.{ℕ, ◌+◌, ◌-◌, ◌≤◌, ◌<◌}
use native.Mathlib.Nat.{add-zero}
use native.Mathlib.Omega.{arith}
use lib.ListN.{length, take}
use lib.Seq.{length-take-le, take-take, take-length, paste, take-paste, length-paste}
use borrow.Author.Tests.{lt-ltb, le-ltb}
use Rattle.format.specs.Bytes.{pick}
use Rattle.label.specs.Seen.{kept_after, Within}
use Rattle.format.specs.Label.{labelled, dot_from, kept_to_dot, kept_of, label_step}
use Rattle.format.specs.declared.Cut.{Cut}
use Rattle.format.specs.declared.Cut.TheVariants.{Trim, Back}
use Rattle.format.proofs.Basics.{less_or_not}
use Rattle.format.proofs.LabelLaws.{step_fits}

-- ---- what stays

pub within_more : (m n : ℕ) (x : Option ℕ) → m ≤ n → Within m x → Within n x
within_more m n None h w = tt
within_more m n (Some k) h w = omega arith

module _ (b : List ℕ) (len n : ℕ) (hb : len ≤ length b) where
  pub dot_short : len < 16 → None ≡ kept_to_dot (take len b) n
  unfolding kept_to_dot pick
  dot_short h = simp (length-take-le len b hb, lt-ltb _ _ h)

  pub dot_from_lem : 16 ≤ len → dot_from n 0 (take (len - 16) b) ≡ kept_to_dot (take len b) n
  unfolding kept_to_dot pick
  dot_from_lem h =
      let z : len - 16 ≤ len = omega arith in
      simp (length-take-le len b hb, le-ltb _ _ h, take-take (len - 16) len b z)

  -- "Dropping must leave at least one byte"
  pub trim_after : kept_after len n 1 ≡ kept_of (take len b) (Trim n)
  unfolding kept_after pick
  trim_after =
      less_or_not n len
      (λ h. simp (length-take-le len b hb, le-ltb len (n + 1) (omega arith), lt-ltb n len h))
      λ h. simp (length-take-le len b hb, lt-ltb len (n + 1) (omega arith), le-ltb n len h)

  -- "D up to the whole label is allowed"
  pub back_after : kept_after len n 0 ≡ kept_of (take len b) (Back n)
  unfolding kept_after
  back_after = simp (length-take-le len b hb, add-zero)

-- ---- the label after a step

-- added is laid over the buffer b from k on
module _ (b : List ℕ) (len k : ℕ) (added : List ℕ) (hb : length b ≡ 4096) (hk : k ≤ len) (h : k + length added ≤ 4096) where
  pub step_whole : length (paste b k added (length added)) ≡ 4096
  step_whole = length-paste b k added (length added) (omega arith) (omega arith) ∙ hb

  pub step_laid : (cut : Cut) → Some k ≡ kept_of (take len b) cut
      → labelled (take (k + length added) (paste b k added (length added))) ≡ label_step (take len b) cut added
  step_laid cut e =
      let p = take-paste b k added (length added) (omega arith) (omega arith) in
      ap labelled (p ∙ simp (take-length, take-take k len b hk)) ∙ sym (step_fits (take len b) cut added k (sym e) h)
