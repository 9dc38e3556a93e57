-- `step::next_at` meets its contract. Assumes nothing.
use Prim.Native.Nat.{◌-◌}
use lib.ListN.{length}
use Rattle.step.proofs.GoingLaws.{Left}
use Rattle.step.proofs.next_at.Given as goal

abbrev pub invariant-loop-taken : goal.invariant-loop-taken
invariant-loop-taken l = Left l.initial.here l.initial.bytes l.file l.initial.out (length l.file - l.taken) l.here l.bytes l.out
