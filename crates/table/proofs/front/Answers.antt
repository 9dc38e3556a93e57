-- `table::front` meets its contract. Assumes nothing.
use Rattle.table.specs.Room.{front_of}
use borrow.Author.Rules.{rules}
use Rattle.table.proofs.front.Goals as goal

pub returns : goal.returns
unfolding front_of
returns c = search rules
