-- `viewer::first_far` meets its contract. Assumes nothing.
use native.Mathlib.Omega.{arith}
use Prim.Native.Nat.{◌+◌}
use mathlib.Core.Path.{◌≡◌, sym, ◌∙◌}
use borrow.Author.Rules.{part_to_end}
use lib.ListN.{drop}
use Rattle.format.specs.Bytes.{be16}
use Rattle.format.proofs.SheetLaws.{bytes_drop}
use Rattle.viewer.specs.Viewing.{far_at}
use Rattle.viewer.proofs.Walk.{walk_starts, Turn, seeking_starts, seeking_ends, seeking_turn, seeking_needs, seeking_far, seeking_on}
use Rattle.viewer.proofs.first_far.Goals as goal

pub first_place-at-requires : goal.first_place-at-requires
first_place-at-requires c = omega (arith, (walk_starts c.args.sheet.now c.requires).inside)

pub loop-at-init : goal.loop-at-init
loop-at-init c = seeking_starts c.args.origin c.args.sheet.now _ c.requires c.first_place-at.ensures

pub slice_bounds-rest-count : goal.slice_bounds-rest-count
slice_bounds-rest-count c = omega (arith, c.loop-at-test.true)

pub slice_bounds-rest-start : goal.slice_bounds-rest-start
slice_bounds-rest-start c = omega (arith, c.loop-at-test.true)

pub far_record-requires : goal.far_record-requires
far_record-requires c = simp part_to_end (seeking_needs c.loop-at.invariant c.loop-at-test.true)

pub returns-then-far_record : goal.returns-then-far_record
returns-then-far_record c =
    rw c.at.ensures (seeking_far c.loop-at.invariant c.loop-at-test.true (bytes_drop c.args.sheet.now (λ i. (c.type_inv.sheet i).fits) c.loop-at.at) (sym ((let it : c.far_record.result ≡ far_at c.args.origin (drop c.loop-at.at c.args.sheet.now) = simp part_to_end at c.far_record.ensures in it)) ∙ c.if-far_record.true))

pub overflow_add-number : goal.overflow_add-number
overflow_add-number c =
    let S = c.loop-at.invariant in
    omega (arith, S.few, S.walk.inside, c.well_formed)

pub size_at-at-requires : goal.size_at-at-requires
size_at-at-requires c =
    let T = (let it : Turn c.args.sheet.now c.loop-at.at c.loop-at.invariant.left = seeking_turn c.loop-at.invariant c.loop-at-test.true in it) in
    simp part_to_end (omega (arith, T.least, T.there))

pub overflow_add-at : goal.overflow_add-at
overflow_add-at c =
    let T = (let it : Turn c.args.sheet.now c.loop-at.at c.loop-at.invariant.left = seeking_turn c.loop-at.invariant c.loop-at-test.true in it) in
    omega (arith, (let it : c.size_at-at.result ≡ 2 + be16 (drop c.loop-at.at c.args.sheet.now) = simp part_to_end at c.size_at-at.ensures in it), T.next.inside, c.well_formed)

pub loop-at-smaller : goal.loop-at-smaller
loop-at-smaller c =
    let T = (let it : Turn c.args.sheet.now c.loop-at.at c.loop-at.invariant.left = seeking_turn c.loop-at.invariant c.loop-at-test.true in it) in
    omega (arith, (let it : c.size_at-at.result ≡ 2 + be16 (drop c.loop-at.at c.args.sheet.now) = simp part_to_end at c.size_at-at.ensures in it), T.least, T.next.inside)

pub loop-at-preserved : goal.loop-at-preserved
loop-at-preserved c =
    rw ((let it : c.size_at-at.result ≡ 2 + be16 (drop c.loop-at.at c.args.sheet.now) = simp part_to_end at c.size_at-at.ensures in it)) (seeking_on c.loop-at.invariant c.loop-at-test.true (bytes_drop c.args.sheet.now (λ i. (c.type_inv.sheet i).fits) c.loop-at.at) (sym ((let it : c.far_record.result ≡ far_at c.args.origin (drop c.loop-at.at c.args.sheet.now) = simp part_to_end at c.far_record.ensures in it)) ∙ c.if-far_record.false))

pub returns : goal.returns
returns c = seeking_ends c.loop-at.invariant c.loop-at-test.false
