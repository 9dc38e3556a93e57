-- `decode::day_of_seconds` meets its contract. Assumes nothing.
use Rattle.format.specs.Items.{day_of_seconds}
use borrow.Author.Rules.{rules}
use Rattle.decode.proofs.day_of_seconds.Goals as goal

pub returns : goal.returns
unfolding day_of_seconds
returns c = search rules
