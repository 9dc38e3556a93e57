-- `reach::other_size` meets its contract. Assumes nothing.
use mathlib.Core.Path.{ap}
use Rattle.reach.specs.Reaching.{size_of}
use Rattle.reach.proofs.other_size.Goals as goal

pub returns-in_err-entry : goal.returns-in_err-entry
returns-in_err-entry c = rw c.from_residual.ensures (ap size_of c.in_err-entry.ensures.same)

pub returns : goal.returns
returns c = ap size_of c.in_ok-entry.ensures.same
