-- `measure::days` meets its contract. Assumes nothing.
use Rattle.format.specs.Items.{days_item}
use borrow.Author.Rules.{part_to_end}
use Rattle.measure.proofs.Items.{sized_short, sized_comes}
use Rattle.measure.proofs.days.Goals as goal

pub returns-then-s-lt5 : goal.returns-then-s-lt5
unfolding days_item
returns-then-s-lt5 c =
    (tt, sized_short 5 _ _ c.if-s-lt5.true)

pub returns : goal.returns
unfolding days_item
returns c = (
  c.dated.ensures.0,
  sized_comes 5 _ _ c.dated.result c.if-s-lt5.false
      (simp (c.get_le16-first.ensures.0, c.get_le16-last.ensures.0, part_to_end) at c.dated.ensures.1),
)
