-- `label::nth_dot` meets its contract. The walk's invariant is `Passed`. Assumes nothing.
use native.Mathlib.Omega.{arith}
use mathlib.Core.Path.{◌≡◌}
use Rattle.label.proofs.Dots.{passed_start, passed_none, passed_dot, passed_other, passed_found}
use Rattle.label.proofs.nth_dot.Goals as goal

pub loop-i-init : goal.loop-i-init
loop-i-init c =
    passed_start c.args.bytes.now c.args.len c.args.n (omega arith)

pub loop-i-preserved-else-dots-n : goal.loop-i-preserved-else-dots-n
loop-i-preserved-else-dots-n c =
    passed_dot c.args.bytes.now c.args.len c.args.n (omega (arith, c.requires)) c.loop-i.i c.loop-i.dots (omega arith) c.loop-i.invariant
    c.if-bytes-i-eq46.true c.if-dots-n.false

pub loop-i-preserved : goal.loop-i-preserved
loop-i-preserved c =
    passed_other c.args.bytes.now c.args.len c.args.n (omega (arith, c.requires)) c.loop-i.i c.loop-i.dots (omega arith) c.loop-i.invariant c.if-bytes-i-eq46.false

pub returns-then-dots-n : goal.returns-then-dots-n
returns-then-dots-n c = (
  passed_found c.args.bytes.now c.args.len c.args.n (omega (arith, c.requires)) c.loop-i.i c.loop-i.dots (omega arith) c.loop-i.invariant
      c.if-bytes-i-eq46.true c.if-dots-n.true,
  omega arith,
)

pub returns-then-i-eq0 : goal.returns-then-i-eq0
returns-then-i-eq0 c =
    let z : c.loop-i.i ≡ 0 = omega arith in
    (passed_none c.args.bytes.now c.args.len c.args.n (omega (arith, c.requires)) c.loop-i.dots (rw z at c.loop-i.invariant), tt)
