-- `capi::cockledrift_next` meets its contract. Assumes nothing.
use Rattle.capi.proofs.Goings.{GoesOn}
use Rattle.capi.proofs.cockledrift_next.Given as goal

abbrev pub invariant-loop-answer : goal.invariant-loop-answer
invariant-loop-answer l = GoesOn l.initial.state l.initial.label l.file l.initial.out l.left l.state l.label l.out

abbrev pub decreases-loop-answer : goal.decreases-loop-answer
decreases-loop-answer l = l.left
