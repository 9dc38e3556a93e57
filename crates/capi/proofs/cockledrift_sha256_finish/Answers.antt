-- `capi::cockledrift_sha256_finish` meets its contract. Assumes nothing.
use Rattle.capi.proofs.cockledrift_sha256_finish.Goals as goal

pub returns : goal.returns
returns c = rw c.running_of-run.ensures at c.finish.ensures
