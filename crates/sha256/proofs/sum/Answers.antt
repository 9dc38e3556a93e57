-- `sha256::sum` meets its contract. Assumes nothing.
use Rattle.sha256.specs.Words.{plus}
use Rattle.sha256.specs.Digest.{sum_of}
use Rattle.sha256.proofs.sum.Goals as goal

pub returns : goal.returns
unfolding sum_of plus
returns c = cc
