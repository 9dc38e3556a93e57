-- `read::outset` meets its contract. Assumes nothing.
use Rattle.read.proofs.outset.Goals as goal

pub returns : goal.returns
returns c = rw c.start_setting-setting.ensures
