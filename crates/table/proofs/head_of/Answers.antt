-- `table::head_of` meets its contract. Assumes nothing.
use borrow.Author.Rules.{part_to_end}
use mathlib.Core.Path.{◌∙◌}
use Rattle.table.specs.Room.{head_at}
use Rattle.table.proofs.head_of.Goals as goal

pub returns : goal.returns
unfolding head_at
returns c =
    let e = c.head_spot-k.ensures in
    (simp part_to_end at c.get_le24.ensures.0 ∙ rw e, c.get_le24.ensures.1)
