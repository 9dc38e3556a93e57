-- `sha256::round` meets its contract. Assumes nothing.
use Rattle.sha256.specs.Words.{plus}
use Rattle.sha256.specs.Digest.{round_of}
use Rattle.sha256.proofs.round.Goals as goal

pub returns : goal.returns
unfolding round_of plus
returns c = cc
