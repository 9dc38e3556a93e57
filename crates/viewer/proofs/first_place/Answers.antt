-- `viewer::first_place` meets its contract. Assumes nothing.
use Prim.Native.Nat.{ℕ, ◌+◌}
use mathlib.Core.Path.{ap, ◌∙◌}
use borrow.Author.Rules.{part_to_end}
use Rattle.viewer.proofs.first_place.Goals as goal

pub returns : goal.returns
returns c = ap (λ (n : ℕ). 3 + n) (c.size_of.ensures ∙ simp part_to_end at c.get_be16.ensures.0)
