-- `summary::put_totals` meets its contract. Assumes nothing.
use Rattle.std.proofs.Common.{◌≡◌, ◌*◌, ◌≤◌, length}
use Rattle.format.specs.Summary.{bit_at}
use Rattle.summary.specs.Bits.{sum_to, Totalled}
use Rattle.summary.proofs.put_totals.Given as goal

abbrev pub invariant-loop-j : goal.invariant-loop-j
invariant-loop-j l = (length l.words ≡ length l.initial.words) × (l.sum ≡ sum_to (bit_at l.initial.words) (64 * l.j)) × (l.sum ≤ 64 * l.j) × Totalled l.initial.words l.words l.w l.j
