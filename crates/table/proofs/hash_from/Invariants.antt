-- `table::hash_from` meets its contract. Assumes nothing.
use Prim.Native.Nat.{◌+◌, ◌*◌, ◌/◌}
use mathlib.Core.Path.{◌≡◌}
use lib.ListN.{length, drop}
use Rattle.table.specs.Hash.{hash_from}
use Rattle.table.proofs.hash_from.Given as goal

abbrev pub invariant-loop-word : goal.invariant-loop-word
invariant-loop-word l = hash_from l.k l.h (drop (4 * l.word-index) l.name) ≡ hash_from l.k l.from l.name

abbrev pub invariant-loop-b : goal.invariant-loop-b
invariant-loop-b l = hash_from l.k l.h (drop (length l.name / 4 * 4 + l.b-index) l.name) ≡ hash_from l.k l.from l.name
