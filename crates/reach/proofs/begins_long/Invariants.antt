-- `reach::begins_long` meets its contract. Assumes nothing.
use Prim.Native.Nat.{◌+◌, ◌-◌, ◌<◌}
use mathlib.Core.Path.{◌≡◌}
use lib.ListN.{take}
use Rattle.reach.proofs.begins_long.Given as goal

abbrev pub invariant-loop-i : goal.invariant-loop-i
invariant-loop-i l = (l.i < l.last + 8) × (take l.i l.s ≡ take l.i l.name)

abbrev pub decreases-loop-i : goal.decreases-loop-i
decreases-loop-i l = l.last + 8 - l.i
