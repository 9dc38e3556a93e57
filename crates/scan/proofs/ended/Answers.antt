-- `scan::ended` meets its contract. Assumes nothing.
use Rattle.std.specs.Prelude.{Err}
use mathlib.Core.Path.{ap}
use borrow.Author.Tests.{lt-ltb, le-ltb}
use Rattle.format.specs.Bytes.{pick}
use Rattle.scan.specs.Places.{ended_at}
use Rattle.scan.proofs.ended.Goals as goal

pub returns-then-left-gt1 : goal.returns-then-left-gt1
unfolding ended_at pick
returns-then-left-gt1 c = rw (lt-ltb _ _ c.if-left-gt1.true) (ap Err c.at.ensures)

pub returns : goal.returns
unfolding ended_at pick
returns c = simp (le-ltb _ _ c.if-left-gt1.false)
