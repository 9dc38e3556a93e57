use Prim.Native.Nat.{◌*◌}
use Rattle.wire.specs.Begun.{Begun}
use Rattle.wire.proofs.same_eights.Given as goal

abbrev pub invariant-loop-turn : goal.invariant-loop-turn
invariant-loop-turn l = Begun l.l l.m (8 * l.turn)
