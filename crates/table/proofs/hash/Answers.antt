-- `table::hash` meets its contract. Assumes nothing.
use mathlib.Core.Path.{◌∙◌}
use Rattle.table.specs.Hash.{hash_of}
use Rattle.table.proofs.hash.Goals as goal

pub returns : goal.returns
unfolding hash_of
returns c = c.hash_from.ensures ∙ rw c.factor-k.ensures
