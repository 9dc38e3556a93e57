-- `measure::day` meets its contract. Assumes nothing.
use Rattle.format.specs.Items.{day_item}
use borrow.Author.Rules.{part_to_end}
use Rattle.measure.proofs.Items.{sized_short, sized_comes}
use Rattle.measure.proofs.day.Goals as goal

pub returns-then-s-lt3 : goal.returns-then-s-lt3
unfolding day_item
returns-then-s-lt3 c =
    (tt, sized_short 3 _ _ c.if-s-lt3.true)

pub returns : goal.returns
unfolding day_item
returns c = (
  c.dated.ensures.0,
  sized_comes 3 _ _ c.dated.result c.if-s-lt3.false
      (simp (c.get_le16-day.ensures.0, part_to_end) at c.dated.ensures.1),
)
