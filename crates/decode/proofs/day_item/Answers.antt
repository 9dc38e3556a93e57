-- `decode::day_item` meets its contract. Assumes nothing.
use borrow.Author.Rules.{part_to_end}
use Rattle.format.specs.Items.{day_item}
use Rattle.decode.proofs.Sized.{reads_short, reads_whole}
use Rattle.decode.proofs.day_item.Goals as goal

pub returns-then-s-lt3 : goal.returns-then-s-lt3
unfolding day_item
returns-then-s-lt3 c = reads_short 3 _ _ c.if-s-lt3.true

pub returns : goal.returns
unfolding day_item
returns c = reads_whole 3 _ _ c.if-s-lt3.false (simp (c.get_le16-day.ensures.0, part_to_end)) tt
