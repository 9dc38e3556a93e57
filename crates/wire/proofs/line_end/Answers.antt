-- `line_end` meets its contract. i bytes, and those before a linefeed in what is left, are all before the first linefeed. Assumes nothing.
use mathlib.Core.Path.{◌≡◌}
use lib.ListN.{length, drop, length-drop}
use native.Mathlib.Omega.{arith}
use Rattle.wire.proofs.Laws.{line_past, line_here, line_none}
use Rattle.wire.proofs.line_end.Goals as goal

pub returns-then-b-eq10 : goal.returns-then-b-eq10
returns-then-b-eq10 c =
    omega (arith, line_here c.args.s.now c.loop-i.i (omega arith) c.if-b-eq10.true)

pub loop-i-preserved : goal.loop-i-preserved
loop-i-preserved c =
    omega (arith, line_past c.args.s.now c.loop-i.i (omega arith) c.if-b-eq10.false)

pub returns : goal.returns
returns c =
    let i = c.loop-i.i in
    let e : length (drop i c.args.s.now) ≡ 0 = simp length-drop (omega arith) in
    omega (arith, line_none (drop i c.args.s.now) e)
