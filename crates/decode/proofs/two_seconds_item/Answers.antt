-- `decode::two_seconds_item` meets its contract. Assumes nothing.
use borrow.Author.Rules.{part_to_end}
use Rattle.format.specs.Items.{two_seconds_item}
use Rattle.decode.proofs.Sized.{reads_short, reads_whole}
use Rattle.decode.proofs.two_seconds_item.Goals as goal

pub returns-then-s-lt9 : goal.returns-then-s-lt9
unfolding two_seconds_item
returns-then-s-lt9 c = reads_short 9 _ _ c.if-s-lt9.true

pub returns : goal.returns
unfolding two_seconds_item
returns c = reads_whole 9 _ _ c.if-s-lt9.false (simp (c.day_of_seconds-first.ensures, c.day_of_seconds-last.ensures, c.get_le32.ensures.0, c.get_le32-2.ensures.0, part_to_end)) tt
