-- `step::end_step` meets its contract. Assumes nothing.
use native.Mathlib.Omega.{arith}
use Rattle.step.proofs.end_step.Goals as goal

pub returns-then-left-gt1 : goal.returns-then-left-gt1
returns-then-left-gt1 c =
    record { more = λ l. rw c.at.ensures at c.refused_step.ensures; none = λ l. absurd (omega (arith, l, c.if-left-gt1.true)) }

pub returns : goal.returns
returns c =
    record { more = λ l. absurd (omega (arith, l, c.if-left-gt1.false)); none = λ l. c.last_step.ensures }
