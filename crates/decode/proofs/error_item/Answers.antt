-- `decode::error_item` meets its contract. Assumes nothing.
use borrow.Author.Rules.{part_to_end}
use Rattle.format.specs.Items.{error_item}
use Rattle.decode.proofs.Sized.{reads_short, reads_whole}
use Rattle.decode.proofs.error_item.Goals as goal

pub returns-then-s-lt21 : goal.returns-then-s-lt21
unfolding error_item
returns-then-s-lt21 c = reads_short 21 _ _ c.if-s-lt21.true

pub returns : goal.returns
unfolding error_item
returns c = reads_whole 21 _ _ c.if-s-lt21.false (simp (c.get_traverse-traverse.ensures, part_to_end)) tt
