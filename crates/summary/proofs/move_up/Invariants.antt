-- `summary::move_up` meets its contract. Assumes nothing.
use Rattle.std.proofs.Common.{◌≡◌, ◌+◌, ◌≤◌, length}
use Rattle.format.specs.Summary.{bit_at}
use Rattle.summary.specs.Bits.{Put}
use Rattle.summary.proofs.move_up.Given as goal

abbrev pub invariant-loop-left : goal.invariant-loop-left
invariant-loop-left l = (l.left ≤ l.size) × (length l.words ≡ length l.initial.words) × Put l.initial.words l.words l.to l.left l.size (λ i. bit_at l.initial.words (l.from + i))

abbrev pub decreases-loop-left : goal.decreases-loop-left
decreases-loop-left l = l.left
