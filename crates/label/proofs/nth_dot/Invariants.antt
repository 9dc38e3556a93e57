-- `label::nth_dot` meets its contract. The walk's invariant is `Passed`. Assumes nothing.
use Rattle.label.proofs.Dots.{Passed}
use Rattle.label.proofs.nth_dot.Given as goal

abbrev pub invariant-loop-i : goal.invariant-loop-i
invariant-loop-i l = Passed l.bytes l.len l.n l.i l.dots

abbrev pub decreases-loop-i : goal.decreases-loop-i
decreases-loop-i l = l.i
