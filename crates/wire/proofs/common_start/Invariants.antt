-- `wire::common_start` meets its contract. Assumes nothing.
use Rattle.wire.specs.Begun.{Begun}
use Rattle.wire.proofs.common_start.Given as goal

abbrev pub invariant-loop-i : goal.invariant-loop-i
invariant-loop-i l = Begun l.l l.m l.i
