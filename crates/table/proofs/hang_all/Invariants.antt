-- `table::hang_all` meets its contract. Assumes nothing.
use Rattle.table.specs.Good.{Links, Chained}
use Rattle.table.proofs.hang_all.Given as goal

abbrev pub invariant-loop-i : goal.invariant-loop-i
invariant-loop-i l = Links l.initial.room l.room l.n × Chained l.room l.n l.i
