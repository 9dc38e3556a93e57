-- `item::made_step` meets its contract. Assumes nothing.
use mathlib.Core.Path.{refl}
use Rattle.item.proofs.made_step.Goals as goal

pub returns-in-Only : goal.returns-in-Only
returns-in-Only c =
    rw c.in-Only.is (record { same = λ b. refl; short = λ q. q }, tt)

pub returns-in-Section : goal.returns-in-Section
returns-in-Section c =
    rw c.in-Section.is (record { same = λ b. refl; short = λ q. q }, refl)

pub returns-in-Station : goal.returns-in-Station
returns-in-Station c =
    rw c.in-Station.is (record { same = λ b. refl; short = λ q. q }, refl)

pub returns-in-Line : goal.returns-in-Line
returns-in-Line c =
    rw c.in-Line.is c.leg_step.ensures
