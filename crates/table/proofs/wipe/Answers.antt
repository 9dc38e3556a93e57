-- `table::wipe` meets its contract. Assumes nothing.
use Rattle.table.specs.Room.{blank}
use Rattle.table.proofs.wipe.Goals as goal

pub returns : goal.returns
unfolding blank
returns c = c.lay.ensures
