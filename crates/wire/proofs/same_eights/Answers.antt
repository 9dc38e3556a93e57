use Prim.Native.Nat.{◌≤◌, ◌*◌, ◌+◌}
use mathlib.Core.Path.{◌≡◌}
use borrow.Author.Rules.{part_to_end}
use lib.ListN.{take, drop, length-take, length-drop}
use native.Mathlib.Omega.{arith}
use Rattle.format.specs.Codes.{common}
use Rattle.wire.proofs.Laws.{common_eights}
use Rattle.wire.proofs.same_eights.Goals as goal

pub same_eight-k-requires : goal.same_eight-k-requires
same_eight-k-requires c =
    (simp (length-take, length-drop) (omega arith), simp (length-take, length-drop) (omega arith))

pub returns-then-k-lt8 : goal.returns-then-k-lt8
returns-then-k-lt8 c =
    let i = 8 * c.loop-turn.turn in
    let k = c.same_eight-k.result in
    let h = c.same_eight-k.ensures.1 in (
      (
        omega (arith, h),
        omega (arith, h),
        omega (
          arith,
          common_eights c.args.l.now c.args.m.now i k (omega arith) (omega arith) h ((let it : c.same_eight-k.result ≤ common (take 8 (drop (8 * c.loop-turn.turn)
              c.args.l.now))
              (take 8 (drop (8 * c.loop-turn.turn) c.args.m.now)) = rw (
                part_to_end c.args.l.now (8 * c.loop-turn.turn),
                part_to_end c.args.m.now (8 * c.loop-turn.turn),
              ) at
              c.same_eight-k.ensures.0 in it)),
        ),
      ),
      omega (arith, h),
    )

pub loop-turn-preserved : goal.loop-turn-preserved
loop-turn-preserved c =
    let i = 8 * c.loop-turn.turn in
    let k = c.same_eight-k.result in
    let h = c.same_eight-k.ensures.1 in
    let e : k ≡ 8 = omega (arith, h, c.if-k-lt8.false) in
    let z = rw e at (common_eights c.args.l.now c.args.m.now i k (omega arith) (omega arith) h ((let it : c.same_eight-k.result ≤ common (take 8 (drop (8 * c.loop-turn.turn)
    c.args.l.now))
    (take 8 (drop (8 * c.loop-turn.turn) c.args.m.now)) = rw (
      part_to_end c.args.l.now (8 * c.loop-turn.turn),
      part_to_end c.args.m.now (8 * c.loop-turn.turn),
    ) at
    c.same_eight-k.ensures.0 in it))) in
    let q : 8 * (c.loop-turn.turn + 1) ≡ 8 * c.loop-turn.turn + 8 = omega arith in
    rw q (omega arith, omega arith, omega (arith, z))

pub overflow_add-result : goal.overflow_add-result
overflow_add-result c =
    omega (arith, c.same_eight-k.ensures.1)
