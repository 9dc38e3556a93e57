-- `measure::measure` meets its contract. Assumes nothing.
use Prim.Native.Nat.{◌-◌}
use lib.ListN.{length}
use Rattle.measure.proofs.Turn.{Going}
use Rattle.measure.proofs.measure.Given as goal

abbrev pub invariant-loop-item : goal.invariant-loop-item
invariant-loop-item l = Going l.file l.place l.front l.at l.out l.records l.label l.style l.placed

abbrev pub decreases-loop-item : goal.decreases-loop-item
decreases-loop-item l = length l.file - l.at
