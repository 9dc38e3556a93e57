-- `held::one_step` meets its contract. Assumes nothing.
use Rattle.held.proofs.one_step.Goals as goal

pub returns-in-Some-Record : goal.returns-in-Some-Record
returns-in-Some-Record c = rw c.in-Some-Record.field-0-is at c.in-Some-Record.ensures

pub returns-in-Some-Nothing : goal.returns-in-Some-Nothing
returns-in-Some-Nothing c = rw c.in-Some-Nothing.field-0-is at c.in-Some-Nothing.ensures

pub returns-in-None : goal.returns-in-None
returns-in-None c =
    let F = c.in-None.ensures in
    rw (F.0, F.1, F.2) at c.any_step.ensures
