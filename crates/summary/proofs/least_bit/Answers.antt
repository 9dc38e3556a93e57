-- `summary::least_bit` meets its contract. Assumes nothing.
use Rattle.std.proofs.Common.{arith}
use Rattle.summary.proofs.Asking.{least}
use Rattle.summary.proofs.least_bit.Goals as goal

pub overflow_cast-result : goal.overflow_cast-result
overflow_cast-result c =
    let h = (least 64 c.args.w c.requires c.ranges.w.fits).1 in record { fits = omega arith }

pub returns : goal.returns
returns c = least 64 c.args.w c.requires c.ranges.w.fits
