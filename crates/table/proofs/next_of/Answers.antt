-- `table::next_of` meets its contract. Assumes nothing.
use borrow.Author.Rules.{part_to_end}
use Rattle.table.specs.Room.{next_at}
use Rattle.table.proofs.next_of.Goals as goal

pub returns : goal.returns
unfolding next_at
returns c = simp part_to_end at c.get_le24.ensures.0
