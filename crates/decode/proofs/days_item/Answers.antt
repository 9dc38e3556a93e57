-- `decode::days_item` meets its contract. Assumes nothing.
use borrow.Author.Rules.{part_to_end}
use Rattle.format.specs.Items.{days_item}
use Rattle.decode.proofs.Sized.{reads_short, reads_whole}
use Rattle.decode.proofs.days_item.Goals as goal

pub returns-then-s-lt5 : goal.returns-then-s-lt5
unfolding days_item
returns-then-s-lt5 c = reads_short 5 _ _ c.if-s-lt5.true

pub returns : goal.returns
unfolding days_item
returns c = reads_whole 5 _ _ c.if-s-lt5.false (simp (c.get_le16-first.ensures.0, c.get_le16-last.ensures.0, part_to_end)) tt
