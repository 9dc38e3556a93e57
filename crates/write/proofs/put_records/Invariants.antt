-- `write::put_records` meets its contract: what is written, what is counted and what is left of the sheet come to the whole (`Going`), through
-- a record that goes on from the last (`plain_at`) and through one that is read the general way (`written_at`). Assumes nothing.
use Prim.Native.Nat.{◌-◌}
use lib.ListN.{length}
use Rattle.write.proofs.Turn.{Going}
use Rattle.write.proofs.put_records.Given as goal

abbrev pub invariant-loop-at : goal.invariant-loop-at
invariant-loop-at l =
    Going l.version l.sheet l.begin l.head l.initial.out l.out l.at l.total l.number l.fault l.hand l.position

abbrev pub decreases-loop-at : goal.decreases-loop-at
decreases-loop-at l =
    length l.sheet - l.at
