-- `scan::next_record` meets its contract. Assumes nothing.
use Prim.Native.Nat.{◌-◌}
use lib.ListN.{length}
use Rattle.scan.proofs.Walk.{Going}
use Rattle.scan.proofs.next_record.Given as goal

abbrev pub invariant-loop-fault : goal.invariant-loop-fault
invariant-loop-fault l =
    Going l.version l.file (record { at = l.initial.at; len = l.initial.len; setting = l.initial.setting }) l.initial.bytes l.at l.len l.setting l.bytes

abbrev pub decreases-loop-fault : goal.decreases-loop-fault
decreases-loop-fault l = length l.file - l.at
