-- `listing::rest_lines` meets its contract: what is put so far and what is left of the sheet come to all lines. Assumes nothing.
use Prim.Native.Nat.{◌-◌}
use lib.ListN.{length}
use Rattle.listing.proofs.Sheets.{Listed}
use Rattle.listing.proofs.rest_lines.Given as goal

abbrev pub invariant-loop-entry : goal.invariant-loop-entry
invariant-loop-entry l = Listed l.layout l.sheet l.from l.initial.out l.begin l.out l.at l.k l.records

abbrev pub decreases-loop-entry : goal.decreases-loop-entry
decreases-loop-entry l = length l.sheet - l.at
