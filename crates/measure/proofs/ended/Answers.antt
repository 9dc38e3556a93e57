-- `measure::ended` meets its contract. Assumes nothing.
use mathlib.Core.Path.{◌∙◌}
use borrow.Author.Tests.{lt-ltb, le-ltb}
use Rattle.format.specs.Bytes.{pick}
use Rattle.format.specs.Reading.{ended}
use Rattle.measure.proofs.ended.Goals as goal

pub returns-then-rest-gt1 : goal.returns-then-rest-gt1
unfolding ended pick
returns-then-rest-gt1 c = c.refused_at.ensures ∙ simp (lt-ltb _ _ c.if-rest-gt1.true)

pub returns : goal.returns
unfolding ended pick
returns c = simp (le-ltb _ _ c.if-rest-gt1.false)
