use borrow.Author.Rules.{part_to_end}
use Rattle.item.proofs.leg_at.Goals as goal

pub returns : goal.returns
returns c = simp (c.get_point.ensures, part_to_end)
