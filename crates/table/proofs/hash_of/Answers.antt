-- `table::hash_of` meets its contract. Assumes nothing.
use borrow.Author.Rules.{part_to_end}
use Rattle.table.specs.Room.{hash_at}
use Rattle.table.proofs.hash_of.Goals as goal

pub returns : goal.returns
unfolding hash_at
returns c = simp part_to_end at c.get_le32.ensures.0
