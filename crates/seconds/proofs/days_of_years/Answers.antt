-- `days_of_years` meets its contract: every fourth year has a day more. Assumes nothing.
use Rattle.seconds.proofs.Days.{years}
use Rattle.seconds.proofs.days_of_years.Goals as goal

pub returns : goal.returns
returns c = years c.args.n
