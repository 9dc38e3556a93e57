-- `leap_day` meets its contract. Assumes nothing.
use native.Mathlib.Omega.{arith}
use borrow.Author.Tests.{eq-eqb, ne_eqb}
use Rattle.format.specs.Bytes.{pick}
use Rattle.format.specs.Times.{leap}
use Rattle.seconds.proofs.leap_day.Goals as goal

pub returns-then-year-eq0 : goal.returns-then-year-eq0
unfolding leap pick
returns-then-year-eq0 c =
    (simp (eq-eqb _ _ c.if-year-eq0.true), omega arith)

pub returns-else-year-eq0 : goal.returns-else-year-eq0
unfolding leap pick
returns-else-year-eq0 c =
    (simp (ne_eqb _ _ c.if-year-eq0.false), omega arith)
