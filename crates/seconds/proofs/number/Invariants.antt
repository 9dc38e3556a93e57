-- `number` meets its contract: what is left spells, from the number so far, what the whole spells. Assumes nothing.
use Prim.Native.Nat.{◌≤◌}
use mathlib.Core.Path.{◌≡◌}
use lib.ListN.{drop}
use Rattle.seconds.specs.Reading.{number_from}
use Rattle.seconds.proofs.number.Given as goal

abbrev pub invariant-loop-b : goal.invariant-loop-b
invariant-loop-b l = (l.n ≤ 4294967295) × (number_from 0 l.s ≡ number_from l.n (drop l.b-index l.s))
