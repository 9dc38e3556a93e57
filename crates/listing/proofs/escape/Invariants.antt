-- `listing::escape` meets its contract: the bytes passed so far are put, each at most three bytes long. Assumes nothing.
use Prim.Native.Nat.{◌*◌}
use lib.ListN.{take}
use Rattle.listing.specs.Text.{escaped}
use Rattle.listing.specs.Puts.{Put}
use Rattle.listing.proofs.escape.Given as goal

abbrev pub invariant-loop-b : goal.invariant-loop-b
invariant-loop-b l = Put (3 * l.b-index) (escaped (take l.b-index l.s)) l.initial.out l.at l.k l.out
