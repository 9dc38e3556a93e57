-- `read::pass` meets its contract. Assumes nothing.
use Prim.Native.Nat.{◌-◌}
use lib.ListN.{length}
use Rattle.read.proofs.Ruling.{GoingOn}
use Rattle.read.proofs.pass.Given as goal

-- what a pass goes over stands in the loop's own numbers: `stand₀` is where it began
abbrev pub invariant-loop-next : goal.invariant-loop-next
invariant-loop-next l =
    GoingOn l.initial.ruling l.ruling (record { version = l.version; place = l.initial.stand.here.at; front = l.initial.stand.here.out }) l.file l.initial.lent l.lent l.stand l.label.bytes

abbrev pub decreases-loop-next : goal.decreases-loop-next
decreases-loop-next l = length l.file - l.stand.here.at
