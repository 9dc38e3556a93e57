-- `measure::span` meets its contract. Assumes nothing.
use Rattle.format.specs.Items.{span_item}
use borrow.Author.Rules.{part_to_end}
use Rattle.measure.proofs.Items.{sized_short, sized_comes}
use Rattle.measure.proofs.span.Goals as goal

pub returns-then-s-lt4 : goal.returns-then-s-lt4
unfolding span_item
returns-then-s-lt4 c =
    (tt, sized_short 4 _ _ c.if-s-lt4.true)

pub returns : goal.returns
unfolding span_item
returns c = (
  c.dated.ensures.0,
  sized_comes 4 _ _ c.dated.result c.if-s-lt4.false
      (simp (c.get_le16-first.ensures.0, c.wide-days.ensures.0, part_to_end) at c.dated.ensures.1),
)
