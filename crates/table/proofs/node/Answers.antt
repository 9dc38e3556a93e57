-- `table::node` meets its contract. Assumes nothing.
use Rattle.table.specs.Room.{node_of}
use borrow.Author.Rules.{rules}
use Rattle.table.proofs.node.Goals as goal

pub returns : goal.returns
unfolding node_of
returns c = search rules
