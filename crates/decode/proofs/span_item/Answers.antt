-- `decode::span_item` meets its contract. Assumes nothing.
use borrow.Author.Rules.{part_to_end}
use Rattle.format.specs.Items.{span_item}
use Rattle.decode.proofs.Sized.{reads_short, reads_whole}
use Rattle.decode.proofs.span_item.Goals as goal

pub returns-then-s-lt4 : goal.returns-then-s-lt4
unfolding span_item
returns-then-s-lt4 c = reads_short 4 _ _ c.if-s-lt4.true

pub returns : goal.returns
unfolding span_item
returns c = reads_whole 4 _ _ c.if-s-lt4.false (simp (c.get_le16-first.ensures.0, c.wide-span.ensures.0, part_to_end)) tt
