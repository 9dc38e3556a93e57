-- `edit::put_behind` meets its contract. Assumes nothing.
use Prim.Native.Nat.{◌-◌}
use Rattle.edit.proofs.Behind.{Putting}
use Rattle.edit.proofs.put_behind.Given as goal

abbrev pub invariant-loop-done : goal.invariant-loop-done
invariant-loop-done l =
    Putting l.file l.fn.from l.initial.name l.initial.last l.initial.out l.place l.pen (l.from.left - l.done) l.name l.last l.out l.spare.bytes l.room
