-- `steplister::gather` meets its contract. Assumes nothing.
use Prim.Native.Nat.{◌≤◌}
use mathlib.Core.Path.{◌≡◌}
use lib.ListN.{length}
use Rattle.format.specs.Sheet.{record_limit}
use Rattle.step.specs.Standing.{stand_seen}
use Rattle.steplister.proofs.Onward.{bytes_left}
use Rattle.steplister.proofs.Turn.{Going}
use Rattle.steplister.proofs.gather.Given as goal

abbrev pub invariant-loop-answer : goal.invariant-loop-answer
invariant-loop-answer l =
    Going l.file l.initial.sheet l.front (stand_seen l.stand l.label.bytes) l.bytes l.sheet × (length l.held ≡ length l.initial.held) × (record_limit ≤ length l.held)

abbrev pub decreases-loop-answer : goal.decreases-loop-answer
decreases-loop-answer l =
    bytes_left (stand_seen l.stand l.label.bytes) l.file
