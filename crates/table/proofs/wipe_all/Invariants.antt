-- `table::wipe_all` meets its contract. Assumes nothing.
use Rattle.table.specs.Good.{Blank}
use Rattle.table.proofs.wipe_all.Given as goal

abbrev pub invariant-loop-i : goal.invariant-loop-i
invariant-loop-i l = Blank l.initial.room l.room l.n l.i
