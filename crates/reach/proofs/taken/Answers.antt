-- `reach::taken` meets its contract. Assumes nothing.
use Rattle.reach.proofs.Numbers.{box_made}
use Rattle.reach.proofs.taken.Goals as goal

pub returns : goal.returns
returns c =
    box_made c.args.b c.args.p c.lower.ensures c.upper.ensures
