use native.Mathlib.Omega.{arith}
use Prim.Native.Nat.{◌+◌, ◌-◌, ◌*◌}
use mathlib.Core.Path.{refl, ap, ◌∙◌}
use lib.ListN.{length, length-take, length-drop}
use Rattle.wire.proofs.Laws.{laps, laps_all, over_none, length_over}
use lib.Seq.{length-take-le}
use Rattle.wire.proofs.copy_long.Goals as goal

pub loop-turn-init : goal.loop-turn-init
loop-turn-init c = (refl, over_none c.args.src.now c.args.dst.now)

pub copy_sixteen-requires : goal.copy_sixteen-requires
copy_sixteen-requires c =
    let i = c.loop-turn.invariant in (
      simp (length-take, length-drop) (omega arith),
      simp (length-take, length-drop) (omega (arith, i.0, c.requires)),
    )

pub loop-turn-preserved : goal.loop-turn-preserved
loop-turn-preserved c =
    let l = c.loop-turn in
    let s = c.args.src.now in
    let d = c.args.dst.now in
    let i = 16 * l.turn in
    let e = laps s d l.dst c.copy_sixteen.new.dst i i 16 (16 * (l.turn + 1)) l.invariant.1
    c.copy_sixteen.ensures (omega arith) (omega arith) (omega arith)
    (omega (arith, c.requires))
    (omega (arith, c.requires)) in
    let t = length-take-le (16 * (l.turn + 1)) s (omega (arith, c.requires)) in
    (ap length e ∙ length_over _ d (omega (arith, c.requires)), e)

pub copy_sixteen-requires-2 : goal.copy_sixteen-requires-2
copy_sixteen-requires-2 c =
    let i = c.loop-turn.invariant in (
      simp (length-take, length-drop) (omega (arith, c.requires)),
      simp (length-take, length-drop) (omega (arith, i.0, c.requires)),
    )

pub returns : goal.returns
returns c =
    let l = c.loop-turn in
    let s = c.args.src.now in
    let d = c.args.dst.now in
    laps_all s d l.dst c.copy_sixteen-2.new.dst (16 * l.turn) (length s - 16) 16 l.invariant.1 c.copy_sixteen-2.ensures
    (omega arith) (omega arith) (omega (arith, c.requires))
    (omega (arith, c.requires))
