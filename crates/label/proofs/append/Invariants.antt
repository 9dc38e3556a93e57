-- `label::append` meets its contract. What is laid in so far is a paste of as many bytes as are passed. Assumes nothing.
use Prim.Native.Nat.{◌-◌, ◌≤◌}
use mathlib.Core.Path.{◌≡◌}
use lib.ListN.{length}
use lib.Seq.{paste}
use Rattle.label.proofs.append.Given as goal

abbrev pub invariant-loop-i : goal.invariant-loop-i
invariant-loop-i l = (l.i ≤ length l.added) × (length l.bytes ≡ 4096) × (l.bytes ≡ paste l.initial.bytes l.keep l.added l.i)

abbrev pub decreases-loop-i : goal.decreases-loop-i
decreases-loop-i l = length l.added - l.i
