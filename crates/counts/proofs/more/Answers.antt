-- `counts::more` meets its contract. Assumes nothing.
use borrow.Author.Tests.{lt-ltb, le-ltb}
use Rattle.format.specs.Bytes.{pick}
use Rattle.counts.specs.Tallies.{bounded}
use Rattle.counts.proofs.more.Goals as goal

pub returns-then-total-gt-FILE_LIMIT : goal.returns-then-total-gt-FILE_LIMIT
unfolding bounded pick
returns-then-total-gt-FILE_LIMIT c = simp (lt-ltb _ _ c.if-total-gt-FILE_LIMIT.true)

pub returns : goal.returns
unfolding bounded pick
returns c = simp (le-ltb _ _ c.if-total-gt-FILE_LIMIT.false)
