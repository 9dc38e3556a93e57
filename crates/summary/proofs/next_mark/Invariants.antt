-- `summary::next_mark` meets its contract. Assumes nothing.
use Rattle.std.proofs.Common.{◌+◌, ◌*◌, ◌<◌, ◌≤◌}
use Rattle.summary.proofs.Asking.{Clear}
use Rattle.summary.proofs.next_mark.Given as goal

abbrev pub invariant-loop-j : goal.invariant-loop-j
invariant-loop-j l = (l.s < 64) × (l.a ≤ 64 * l.j + l.s) × Clear l.words l.a (64 * l.j + l.s)
