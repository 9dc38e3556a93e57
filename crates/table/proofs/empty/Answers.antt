-- `table::empty` meets its contract. Assumes nothing.
use mathlib.Core.Path.{refl}
use Rattle.table.proofs.NoNames.{good_empty, none_empty}
use Rattle.table.proofs.empty.Goals as goal

pub returns : goal.returns
returns c = (good_empty _ _, none_empty _, refl)
