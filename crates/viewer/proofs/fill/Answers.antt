-- `viewer::fill` meets its contract. Assumes nothing.
use native.Mathlib.Omega.{arith}
use Prim.Native.Nat.{◌+◌}
use mathlib.Core.Path.{◌≡◌, refl}
use borrow.Author.Rules.{part_to_end}
use lib.ListN.{length, drop}
use Rattle.format.specs.Bytes.{be16}
use Rattle.format.proofs.SheetLaws.{bytes_drop}
use Rattle.viewer.specs.Viewing.{six_at}
use Rattle.viewer.proofs.Numbers.{over_part}
use Rattle.viewer.proofs.Walk.{walk_starts, Turn, filling_starts, filling_ends, filling_turn, leg_room, leg_needs, filling_leg, filling_other}
use Rattle.viewer.proofs.fill.Goals as goal

pub first_place-at-requires : goal.first_place-at-requires
first_place-at-requires c = omega (arith, (walk_starts c.args.sheet.now c.requires.within.good).inside)

pub loop-at-init : goal.loop-at-init
loop-at-init c =
    filling_starts c.args.origin c.args.sheet.now c.args.out.now _ c.requires c.first_place-at.ensures

pub slice_bounds-rest-count : goal.slice_bounds-rest-count
slice_bounds-rest-count c = omega (arith, c.loop-at-test.true)

pub slice_bounds-rest-start : goal.slice_bounds-rest-start
slice_bounds-rest-start c = omega (arith, c.loop-at-test.true)

pub size_at-size-requires : goal.size_at-size-requires
size_at-size-requires c =
    let T = (let it : Turn c.args.sheet.now c.loop-at.at c.loop-at.invariant.left = filling_turn c.loop-at.invariant c.loop-at-test.true in it) in
    simp part_to_end (omega (arith, T.least, T.there))

pub bounds-rest-2 : goal.bounds-rest-2
bounds-rest-2 c =
    let T = (let it : Turn c.args.sheet.now c.loop-at.at c.loop-at.invariant.left = filling_turn c.loop-at.invariant c.loop-at-test.true in it) in
    simp part_to_end (omega (arith, T.least, T.there))

pub offset_bounds-out-k : goal.offset_bounds-out-k
offset_bounds-out-k c =
    let L = c.loop-at.invariant in
    omega (arith, L.room, L.kept, c.well_formed)

pub slice_bounds-put_leg-count : goal.slice_bounds-put_leg-count
slice_bounds-put_leg-count c = omega (arith, c.loop-at.invariant.room)

pub slice_bounds-put_leg-start : goal.slice_bounds-put_leg-start
slice_bounds-put_leg-start c = omega (arith, c.loop-at.invariant.room)

pub put_leg-requires : goal.put_leg-requires
put_leg-requires c =
    let e = simp part_to_end at c.if-rest-eq1.true in
    simp part_to_end (leg_needs c.loop-at.invariant c.loop-at-test.true e)

pub overflow_add-k : goal.overflow_add-k
overflow_add-k c =
    let e = simp part_to_end at c.if-rest-eq1.true in
    omega (arith, leg_room c.loop-at.invariant c.loop-at-test.true e, c.loop-at.invariant.kept, c.well_formed)

pub overflow_add-at : goal.overflow_add-at
overflow_add-at c =
    let T = (let it : Turn c.args.sheet.now c.loop-at.at c.loop-at.invariant.left = filling_turn c.loop-at.invariant c.loop-at-test.true in it) in
    omega (arith, (let it : c.size_at-size.result ≡ 2 + be16 (drop c.loop-at.at c.args.sheet.now) = simp part_to_end at c.size_at-size.ensures in it), T.next.inside, c.well_formed)

pub loop-at-smaller-then-rest-eq1 : goal.loop-at-smaller-then-rest-eq1
loop-at-smaller-then-rest-eq1 c =
    let T = (let it : Turn c.args.sheet.now c.loop-at.at c.loop-at.invariant.left = filling_turn c.loop-at.invariant c.loop-at-test.true in it) in
    omega (arith, (let it : c.size_at-size.result ≡ 2 + be16 (drop c.loop-at.at c.args.sheet.now) = simp part_to_end at c.size_at-size.ensures in it), T.least, T.next.inside)

pub loop-at-preserved-then-rest-eq1 : goal.loop-at-preserved-then-rest-eq1
loop-at-preserved-then-rest-eq1 c =
    let e = simp part_to_end at c.if-rest-eq1.true in
    let p = simp (part_to_end c.args.sheet.now) at c.put_leg.ensures in
    let six = six_at c.args.origin (drop c.loop-at.at c.args.sheet.now) in
    rw ((let it : c.size_at-size.result ≡ 2 + be16 (drop c.loop-at.at c.args.sheet.now) = simp part_to_end at c.size_at-size.ensures in it))
    (filling_leg c.loop-at.invariant c.loop-at-test.true e _
    (rw p (over_part c.loop-at.out six c.loop-at.k (length c.loop-at.out) refl)))

pub overflow_add-at-in-loop-at : goal.overflow_add-at-in-loop-at
overflow_add-at-in-loop-at c =
    let T = (let it : Turn c.args.sheet.now c.loop-at.at c.loop-at.invariant.left = filling_turn c.loop-at.invariant c.loop-at-test.true in it) in
    omega (arith, (let it : c.size_at-size.result ≡ 2 + be16 (drop c.loop-at.at c.args.sheet.now) = simp part_to_end at c.size_at-size.ensures in it), T.next.inside, c.well_formed)

pub loop-at-smaller : goal.loop-at-smaller
loop-at-smaller c =
    let T = (let it : Turn c.args.sheet.now c.loop-at.at c.loop-at.invariant.left = filling_turn c.loop-at.invariant c.loop-at-test.true in it) in
    omega (arith, (let it : c.size_at-size.result ≡ 2 + be16 (drop c.loop-at.at c.args.sheet.now) = simp part_to_end at c.size_at-size.ensures in it), T.least, T.next.inside)

pub loop-at-preserved : goal.loop-at-preserved
loop-at-preserved c =
    let b = bytes_drop c.args.sheet.now (λ i. (c.type_inv.sheet i).fits) c.loop-at.at in
    let e = simp part_to_end at c.if-rest-eq1.false in
    rw ((let it : c.size_at-size.result ≡ 2 + be16 (drop c.loop-at.at c.args.sheet.now) = simp part_to_end at c.size_at-size.ensures in it)) (filling_other c.loop-at.invariant c.loop-at-test.true b e)

pub shape_of-out : goal.shape_of-out
shape_of-out c = c.loop-at.invariant.kept

pub returns : goal.returns
returns c = filling_ends c.loop-at.invariant c.loop-at-test.false
