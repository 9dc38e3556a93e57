-- `table::factor` meets its contract. Assumes nothing.
use borrow.Author.Rules.{rules}
use Rattle.table.specs.Hash.{factor_of}
use Rattle.table.proofs.factor.Goals as goal

pub returns : goal.returns
unfolding factor_of
returns c = search rules
