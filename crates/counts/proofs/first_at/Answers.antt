-- `counts::first_at` meets its contract. Assumes nothing.
use Rattle.format.specs.Bytes.{pick}
use Rattle.counts.proofs.first_at.Goals as goal

pub returns-then-bad : goal.returns-then-bad
unfolding pick
returns-then-bad c = rw (c.in_ok-fault.was, c.if-bad.true)

pub returns : goal.returns
unfolding pick
returns c = rw (c.in_ok-fault.was, c.if-bad.false)
