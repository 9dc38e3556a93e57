-- `table::place_at_lem` meets its contract. Assumes nothing.
use borrow.Author.Rules.{part_to_end}
use Rattle.table.specs.Room.{point_at}
use Rattle.table.proofs.place_at.Goals as goal

pub returns : goal.returns
unfolding point_at
returns c =
    rw (simp part_to_end at c.get_le32.ensures.0, simp part_to_end at c.get_le32-2.ensures.0, simp part_to_end at c.get_le32-3.ensures.0)
