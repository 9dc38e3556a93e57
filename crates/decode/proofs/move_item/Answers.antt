-- `decode::move_item` meets its contract. Assumes nothing.
use borrow.Author.Rules.{part_to_end}
use Rattle.format.specs.Items.{move_item}
use Rattle.decode.proofs.Sized.{reads_short, reads_whole}
use Rattle.decode.proofs.move_item.Goals as goal

pub returns-then-s-lt13 : goal.returns-then-s-lt13
unfolding move_item
returns-then-s-lt13 c = reads_short 13 _ _ c.if-s-lt13.true

pub returns : goal.returns
unfolding move_item
returns c = reads_whole 13 _ _ c.if-s-lt13.false (simp (c.get_point-place.ensures, part_to_end)) tt
