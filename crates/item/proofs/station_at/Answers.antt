use borrow.Author.Rules.{part_to_end}
use Rattle.item.proofs.station_at.Goals as goal

pub returns : goal.returns
returns c = simp (c.get_point.ensures, part_to_end)
