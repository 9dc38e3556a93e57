-- `length::whole_part` meets its contract. Assumes nothing.
use borrow.Author.Tests.{lt-ltb, le-ltb}
use Rattle.format.specs.Bytes.{pick}
use Rattle.length.proofs.whole_part.Goals as goal

pub returns-then-t-part : goal.returns-then-t-part
unfolding pick
returns-then-t-part c = rw c.in_ok-part.was (simp (lt-ltb _ _ c.if-t-part.true))

pub returns : goal.returns
unfolding pick
returns c = rw c.in_ok-part.was (simp (le-ltb _ _ c.if-t-part.false))
