-- `reach::greater_of` meets its contract. Assumes nothing.
use Rattle.format.specs.Reach.{signed}
use Rattle.reach.proofs.Numbers.{greater_second, greater_first}
use Rattle.reach.proofs.greater_of.Goals as goal

pub returns-then-a-b : goal.returns-then-a-b
returns-then-a-b c = greater_second c.args.a c.signed_of-b.result (signed c.args.n) c.ranges.a (record { sfits = c.signed_of-b.type_inv }) c.signed_of-b.ensures c.if-a-b.true

pub returns-else-a-b : goal.returns-else-a-b
returns-else-a-b c = greater_first c.args.a c.signed_of-b.result (signed c.args.n) c.ranges.a (record { sfits = c.signed_of-b.type_inv }) c.signed_of-b.ensures c.if-a-b.false
