-- `viewer::less` meets its contract. Assumes nothing.
use Rattle.viewer.proofs.Differences.{cast_fits, less_fits, less_is}
use Rattle.viewer.proofs.less.Goals as goal

pub overflow_cast-result : goal.overflow_cast-result
overflow_cast-result c = cast_fits _ c.ranges.a

pub overflow_cast-result-2 : goal.overflow_cast-result-2
overflow_cast-result-2 c = cast_fits _ c.ranges.o

pub overflow_sub-result : goal.overflow_sub-result
overflow_sub-result c = less_fits _ _ c.ranges.a c.ranges.o

pub returns : goal.returns
returns c = less_is c.args.a c.args.o c.ranges.a c.ranges.o
