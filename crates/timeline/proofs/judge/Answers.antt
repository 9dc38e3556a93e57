-- `judge` meets its contract, case by case. Assumes nothing.
use borrow.Author.Tests.{lt-ltb, le-ltb}
use Rattle.format.specs.Bytes.{pick}
use Rattle.timeline.proofs.judge.Goals as goal

pub returns-then-other-one : goal.returns-then-other-one
unfolding pick
returns-then-other-one c = rw (c.in-Ok.is, c.in-Ok-second.is) (simp (lt-ltb _ _ c.if-other-one.true))

pub returns-then-one-other : goal.returns-then-one-other
unfolding pick
returns-then-one-other c =
    rw (c.in-Ok.is, c.in-Ok-second.is) (simp (le-ltb _ _ c.if-other-one.false, lt-ltb _ _ c.if-one-other.true))

pub returns : goal.returns
unfolding pick
returns c =
    rw (c.in-Ok.is, c.in-Ok-second.is) (simp (le-ltb _ _ c.if-other-one.false, le-ltb _ _ c.if-one-other.false))
