-- `measure::moved` meets its contract. Assumes nothing.
use Rattle.format.specs.Items.{move_item}
use Rattle.measure.specs.declared.Measured.TheVariants.{Moved}
use Rattle.std.specs.Prelude.{Ok}
use Rattle.measure.proofs.Items.{sized_short, sized_comes, comes_moved}
use Rattle.measure.proofs.moved.Goals as goal

pub returns-then-s-lt13 : goal.returns-then-s-lt13
unfolding move_item
returns-then-s-lt13 c = (tt, sized_short 13 _ _ c.if-s-lt13.true)

pub returns : goal.returns
unfolding move_item
returns c = (tt, sized_comes 13 _ _ (Ok Moved) c.if-s-lt13.false (comes_moved _))
