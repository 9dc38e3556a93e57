-- `short::sides` meets its contract. Assumes nothing.
use native.Mathlib.Omega.{arith}
use borrow.Author.Tests.{lt-ltb, le-ltb}
use Rattle.format.specs.Bytes.{pick}
use Rattle.short.specs.Brief.{sides_of}
use Rattle.short.proofs.sides.Goals as goal

pub returns-then-code-lt50 : goal.returns-then-code-lt50
unfolding sides_of pick
returns-then-code-lt50 c = (simp (lt-ltb _ _ c.if-code-lt50.true), omega arith)

pub returns : goal.returns
unfolding sides_of pick
returns c = (simp (le-ltb _ _ c.if-code-lt50.false), omega arith)
