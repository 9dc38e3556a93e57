-- `edit::put_new` meets its contract. Assumes nothing.
use Prim.Native.Nat.{◌-◌}
use lib.ListN.{length}
use Rattle.edit.proofs.NewRun.{Putting}
use Rattle.edit.proofs.put_new.Given as goal

abbrev pub invariant-loop-at : goal.invariant-loop-at
invariant-loop-at l = Putting l.new l.initial.next l.initial.last l.initial.out l.at l.next l.last l.out

abbrev pub decreases-loop-at : goal.decreases-loop-at
decreases-loop-at l = length l.new - l.at
