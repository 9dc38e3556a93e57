-- `v7::put_sixteens` meets its contract. Assumes nothing.
use Prim.Native.Nat.{◌+◌, ◌-◌}
use mathlib.Core.Path.{◌≡◌}
use native.Mathlib.Omega.{arith}
use Rattle.v7.proofs.Labels.{going_first, going_next, going_last}
use Rattle.part.proofs.Laying.{lays_within}
use Rattle.v7.proofs.put_sixteens.Goals as goal

pub loop-code-init : goal.loop-code-init
loop-code-init c =
    let z : c.args.n - 0 ≡ c.args.n = omega arith in
    rw z going_first

pub put-next-requires : goal.put-next-requires
put-next-requires c = (
  omega (
    arith,
    c.loop-code.invariant.few,
    c.loop-code.invariant.laid.most,
    c.requires,
  ),
  omega arith,
)

pub loop-code-preserved : goal.loop-code-preserved
loop-code-preserved c =
    let z : c.args.n - (c.loop-code._code + 1) ≡ c.args.n - c.loop-code._code - 1 = omega arith in
    rw z (going_next c.loop-code.invariant (omega arith) c.put-next.ensures)

pub returns : goal.returns
returns c =
    lays_within (going_last c.loop-code.invariant (omega arith)) 256 (omega (arith, c.requires))
