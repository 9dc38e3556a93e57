-- `summary::move_down` meets its contract. Assumes nothing.
use Rattle.std.proofs.Common.{◌≡◌, ◌+◌, ◌-◌, ◌≤◌, length}
use Rattle.format.specs.Summary.{bit_at}
use Rattle.summary.specs.Bits.{Put}
use Rattle.summary.proofs.move_down.Given as goal

abbrev pub invariant-loop-done : goal.invariant-loop-done
invariant-loop-done l = (l.done ≤ l.size) × (length l.words ≡ length l.initial.words) × Put l.initial.words l.words l.to 0 l.done (λ i. bit_at l.initial.words (l.from + i))

abbrev pub decreases-loop-done : goal.decreases-loop-done
decreases-loop-done l = l.size - l.done
