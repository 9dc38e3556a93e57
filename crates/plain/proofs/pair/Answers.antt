use Rattle.plain.proofs.Stores.{paired}
use Rattle.plain.proofs.pair.Goals as goal

pub returns : goal.returns
returns c = paired _ _
