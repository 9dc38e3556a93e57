-- `summary::put_marks` meets its contract. Assumes nothing.
use Rattle.format.specs.Refusals.{Good}
use Rattle.std.proofs.Common.{◌≡◌, ℕ, ◌-◌, false, length, get_or, drop}
use Rattle.format.specs.Sheet.{records_of}
use Rattle.format.specs.Summary.{one, marks_in}
use Rattle.summary.specs.Bits.{Put}
use Rattle.summary.proofs.Walk.{Walked}
use Rattle.summary.proofs.put_marks.Given as goal

abbrev pub invariant-loop-at : goal.invariant-loop-at
invariant-loop-at l =
    (length l.words ≡ length l.initial.words)
    × ((v : ℕ) → (records_of v (drop l.begin l.s)).verdict ≡ Good
    → Walked v l.s l.begin l.at l.number × Put l.initial.words l.words l.first 0 l.number (λ i. one (get_or (marks_in (records_of v (drop l.begin l.s)).records) i false)))

abbrev pub decreases-loop-at : goal.decreases-loop-at
decreases-loop-at l = length l.s - l.at
