-- `days_before` meets its contract: the rule comes to the lengths of the months. Assumes nothing.
use Rattle.seconds.proofs.Days.{before_march, from_march}
use Rattle.seconds.proofs.days_before.Goals as goal

pub returns-then-month-lt3 : goal.returns-then-month-lt3
returns-then-month-lt3 c =
    before_march c.args.extra c.args.month c.requires.0 c.requires.2 c.if-month-lt3.true

pub returns : goal.returns
returns c =
    from_march c.args.extra c.args.month c.requires.0 c.requires.2 c.if-month-lt3.false
