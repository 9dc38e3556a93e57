-- The numbers of a v8 label part that begins with 00. Assumes nothing.
use Rattle.std.specs.Prelude.{None}
use mathlib.Core.Path.{◌≡◌, ◌∙◌}
use mathlib.Core.List.{List}
use Prim.Native.Nat.{ℕ, ◌+◌, ◌-◌}
use lib.ListN.{length, take, drop}
use lib.Seq.{drop-drop}
use borrow.Author.Rules.{part_to_end}
use borrow.Author.Tests.{eq-eqb, ne_eqb}
use Rattle.format.specs.Bytes.{pick}
use Rattle.format.specs.Items.{length_size, length_value, long_part, numbers}

-- what follows the first number
pub second_part : (t : List ℕ) (d : ℕ) → take (length (drop 1 t) - d) (drop d (drop 1 t)) ≡ drop (1 + d) t
second_part t d = part_to_end (drop 1 t) d ∙ drop-drop d 1 t

module _ (t : List ℕ) (d : ℕ) (e : d ≡ length_size (drop 1 t)) where
  pub long_none : d ≡ 0 → None ≡ long_part t
  unfolding long_part pick
  long_none h = simp (← e, eq-eqb d 0 h)

  module _ (a : ℕ) (e1 : a ≡ length_size (drop (1 + d) t)) (h : d ≡ 0 → ⊥) where
    pub long_half : a ≡ 0 → None ≡ long_part t
    unfolding long_part pick
    long_half k = simp (← e, ← e1, ne_eqb d 0 h, eq-eqb a 0 k)

    pub long_both : (a ≡ 0 → ⊥) → (v w : ℕ) → v ≡ length_value (drop 1 t) → w ≡ length_value (drop (1 + d) t) → numbers (1 + d + a) v w ≡ long_part t
    unfolding long_part pick
    long_both k v w ev ew = simp (← e, ← e1, ne_eqb d 0 h, ne_eqb a 0 k, ← ev, ← ew)
