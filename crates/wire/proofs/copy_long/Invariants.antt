use mathlib.Core.Path.{◌≡◌}
use lib.ListN.{length, take}
use Prim.Native.Nat.{◌*◌}
use Rattle.format.specs.Bytes.{over}
use Rattle.wire.proofs.copy_long.Given as goal

abbrev pub invariant-loop-turn : goal.invariant-loop-turn
invariant-loop-turn l = (length l.dst ≡ length l.initial.dst) × (l.dst ≡ over (take (16 * l.turn) l.src) l.initial.dst)
