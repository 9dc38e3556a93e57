-- `summary::low_bits` meets its contract. Assumes nothing.
use Rattle.summary.proofs.Bits.{low_ones}
use Rattle.summary.proofs.low_bits.Goals as goal

pub returns : goal.returns
returns c = low_ones c.args.n c.requires.1
