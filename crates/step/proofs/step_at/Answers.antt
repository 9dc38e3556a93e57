-- `step::step_at` meets its contract. Assumes nothing.
use Rattle.step.proofs.Laws.{stands_still, stands_refused}
use Rattle.step.proofs.step_at.Goals as goal

pub step_item-requires : goal.step_item-requires
step_item-requires c =
    (c.in-Going.is, c.full.ensures.1)

pub returns-in-Ended : goal.returns-in-Ended
returns-in-Ended c =
    stands_still c.args.stand _ _ _ c.in-Ended.is

pub returns-in-Refused : goal.returns-in-Refused
returns-in-Refused c =
    stands_refused c.args.stand _ _ _ _ c.in-Refused.is
