-- `layout::put_three` meets its contract. Assumes nothing.
use native.Mathlib.Omega.{arith}
use Rattle.wire.proofs.Laws.{laps}
use Rattle.layout.proofs.put_three.Goals as goal

pub returns : goal.returns
returns c =
    laps c.args.bytes.now c.args.out.now _ _ 32 32 16 48
    (laps c.args.bytes.now c.args.out.now _ _ 16 16 16 32 c.copy_sixteen.ensures
    c.copy_sixteen-2.ensures
    (omega arith) (omega arith) (omega arith) (omega (arith, c.requires)) (omega (arith, c.requires)))
    c.copy_sixteen-3.ensures
    (omega arith) (omega arith) (omega arith) (omega (arith, c.requires)) (omega (arith, c.requires))
