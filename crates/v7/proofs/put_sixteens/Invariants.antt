-- `v7::put_sixteens` meets its contract. Assumes nothing.
use Prim.Native.Nat.{◌-◌}
use Rattle.v7.proofs.Labels.{Going}
use Rattle.v7.proofs.put_sixteens.Given as goal

abbrev pub invariant-loop-code : goal.invariant-loop-code
invariant-loop-code l = Going l.initial.out l.at l.n l.out l.next (l.n - l._code)
