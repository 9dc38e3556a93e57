-- `listing::word` meets its contract: the bytes passed so far are put. Assumes nothing.
use lib.ListN.{take}
use Rattle.listing.specs.Puts.{Put}
use Rattle.listing.proofs.word.Given as goal

abbrev pub invariant-loop-b : goal.invariant-loop-b
invariant-loop-b l = Put l.b-index (take l.b-index l.s) l.initial.out l.at l.k l.out
