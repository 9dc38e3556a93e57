-- `write_v7::put_records` meets its contract. Assumes nothing.
use Prim.Native.Nat.{◌-◌}
use lib.Dec.{eqb}
use lib.ListN.{length}
use Rattle.write_v7.proofs.Turn.{Going}
use Rattle.write_v7.proofs.put_records.Given as goal

abbrev pub invariant-loop-at : goal.invariant-loop-at
invariant-loop-at l =
    Going (eqb l.extended 1) l.version l.sheet l.begin l.head l.initial.out l.out l.at l.total l.number l.fault l.hand

abbrev pub decreases-loop-at : goal.decreases-loop-at
decreases-loop-at l = length l.sheet - l.at
