-- `wire::common_start` meets its contract. Assumes nothing.
use Prim.Native.Nat.{min}
use mathlib.Core.Path.{◌≡◌}
use lib.ListN.{length, drop, length-drop}
use native.Mathlib.Omega.{arith}
use Rattle.wire.proofs.Laws.{common_past, common_here, common_spent}
use Rattle.wire.proofs.common_start.Goals as goal

pub same_eights-i-requires : goal.same_eights-i-requires
same_eights-i-requires c =
    (omega (arith, c.min-n.ensures), omega (arith, c.min-n.ensures))

pub returns-then-l-i : goal.returns-then-l-i
returns-then-l-i c =
    let e = c.min-n.ensures in
    omega (arith, common_here c.args.l.now c.args.m.now c.loop-i.i (omega arith) (omega arith) c.if-l-i.true)

pub loop-i-preserved : goal.loop-i-preserved
loop-i-preserved c =
    let e = c.min-n.ensures in (
      omega arith,
      omega arith,
      omega (
        arith,
        common_past c.args.l.now c.args.m.now c.loop-i.i (omega arith) (omega arith)
            c.if-l-i.false,
      ),
    )

pub returns : goal.returns
returns c =
    let i = c.loop-i.i in
    let e = c.min-n.ensures in
    let z : min (length (drop i c.args.l.now)) (length (drop i c.args.m.now)) ≡ 0 = simp length-drop (omega arith) in
    omega (arith, common_spent (drop i c.args.l.now) (drop i c.args.m.now) z)

pub bounds-l-i : goal.bounds-l-i
bounds-l-i c =
    omega (arith, c.min-n.ensures)

pub bounds-m-i : goal.bounds-m-i
bounds-m-i c =
    omega (arith, c.min-n.ensures)
