-- `item::leg_step` meets its contract. Assumes nothing.
use mathlib.Core.Path.{refl}
use Rattle.item.proofs.Steps.{leg_unset, leg_made}
use Rattle.item.proofs.leg_step.Goals as goal

pub returns-in_default : goal.returns-in_default
returns-in_default c =
    (leg_unset _ _ 0 _ c.args.setting _ _ c.in_default.is, tt)

pub returns : goal.returns
returns c =
    (leg_made _ _ _ _ _ _ _ _ c.in-Some.is c.with_position.ensures, refl)
