-- `summary::ones_of` meets its contract. Assumes nothing.
use Rattle.std.proofs.Common.{arith}
use lib.Count.{ones-le}
use Rattle.summary.proofs.Bits.{ones_all}
use Rattle.summary.proofs.ones_of.Goals as goal

pub overflow_cast-result : goal.overflow_cast-result
overflow_cast-result c =
    let h = ones-le 64 c.args.w c.ranges.w.fits in record { fits = omega arith }

pub returns : goal.returns
returns c =
    (ones_all c.args.w c.ranges.w.fits, ones-le 64 c.args.w c.ranges.w.fits)
