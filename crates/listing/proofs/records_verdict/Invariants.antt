-- `listing::records_verdict` meets its contract: the verdict on what is left is that on all. Assumes nothing.
use Prim.Native.Nat.{◌-◌}
use lib.ListN.{length}
use Rattle.listing.proofs.Sheets.{JudgedTo}
use Rattle.listing.proofs.records_verdict.Given as goal

abbrev pub invariant-loop-at : goal.invariant-loop-at
invariant-loop-at l = JudgedTo l.layout l.sheet l.from l.at l.record

abbrev pub decreases-loop-at : goal.decreases-loop-at
decreases-loop-at l = length l.sheet - l.at
