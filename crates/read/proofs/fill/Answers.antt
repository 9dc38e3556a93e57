-- `read::fill` meets its contract. Assumes nothing.
use native.Mathlib.Omega.{arith}
use Prim.Native.Nat.{◌+◌, ◌-◌, ◌≤◌}
use lib.ListN.{length}
use lib.Seq.{length-take-le}
use mathlib.Core.Path.{◌≡◌}
use Rattle.read.proofs.Whole.{title_length, time_length, front_fits, filled, begins_head}
use Rattle.read.proofs.fill.Goals as goal

pub put_front-requires : goal.put_front-requires
put_front-requires c =
    let O = c.requires.0 in
    let t = c.args.head.title in
    let n = c.args.head.time in
    let r = O.room in
    let k = front_fits c.args.file.now c.args.head O _ _ c.requires.1 in
    let z1 : 24 + t - 24 ≡ t = omega arith in
    let z2 : 24 + t + 1 + n - (24 + t + 1) ≡ n = omega arith in
    let z3 : 24 + t + 1 ≡ 25 + t = omega arith in
    rw (z2, z3, z1, title_length c.args.file.now c.args.head O, time_length c.args.file.now c.args.head O) (r.title_fits, r.time_fits, k)

pub slice_bounds-pass-end-2 : goal.slice_bounds-pass-end-2
slice_bounds-pass-end-2 c =
    let s = c.put_front.new.sheet in
    let h : c.args.bytes ≤ length s = omega (arith, c.requires.1.fits, c.put_front.auto) in
    let e = length-take-le c.args.bytes s h in
    omega (arith, e)

pub pass-requires : goal.pass-requires
pass-requires c =
    rw c.course_of-course.ensures (begins_head _ _ c.requires.0, record { ready = tt })

pub returns : goal.returns
returns c =
    let t = c.args.head.title in
    let n = c.args.head.time in
    let z1 : 24 + t - 24 ≡ t = omega arith in
    let z2 : 24 + t + 1 + n - (24 + t + 1) ≡ n = omega arith in
    let z3 : 24 + t + 1 ≡ 25 + t = omega arith in
    let p = rw (z2, z3, z1) at c.put_front.ensures in
    filled c.args.file.now c.args.head c.requires.0 _ _ c.requires.1 _ _ p (rw c.course_of-course.ensures at c.pass.ensures.lent)
