-- `reach::records_reach` meets its contract. Assumes nothing.
use native.Mathlib.Omega.{arith}
use mathlib.Core.Path.{◌≡◌, refl, sym, ◌∙◌}
use borrow.Author.Rules.{part_to_end}
use lib.ListN.{drop}
use Rattle.format.proofs.SheetLaws.{bytes_drop}
use Rattle.reach.specs.Reaching.{takes_at}
use Rattle.reach.proofs.Turn.{There, there, reaching_none, reaching_end, reaching_flawed, turn_size, turn_needs, turn_taken, turn_left}
use Rattle.reach.proofs.records_reach.Goals as goal

pub loop-at-init : goal.loop-at-init
loop-at-init c =
    reaching_none _ _ _ _ _ c.requires c.unbounded-bounds.ensures

pub slice_bounds-rest-count : goal.slice_bounds-rest-count
slice_bounds-rest-count c = omega (arith, c.loop-at.invariant.inside)

pub slice_bounds-rest-start : goal.slice_bounds-rest-start
slice_bounds-rest-start c = omega (arith, c.loop-at.invariant.inside)

pub returns-in_default : goal.returns-in_default
returns-in_default c =
    rw c.at.ensures (reaching_flawed c.loop-at.invariant c.loop-at-test.true (simp part_to_end at c.in_default.ensures))

pub takes-requires : goal.takes-requires
takes-requires c =
    simp part_to_end (turn_needs c.loop-at.invariant _ ((let it : There c.args.version (drop c.loop-at.at c.args.sheet.now) c.in-Some.size = there _ _ _ (simp part_to_end at c.in-Some.ensures) in it)))

pub with_leg-wider-requires : goal.with_leg-wider-requires
with_leg-wider-requires c =
    simp part_to_end (turn_taken c.loop-at.invariant _ ((let it : There c.args.version (drop c.loop-at.at c.args.sheet.now) c.in-Some.size = there _ _ _ (simp part_to_end at c.in-Some.ensures) in it)) (sym ((let it : c.takes.result ≡ takes_at c.args.name.now c.in-Some.size (drop c.loop-at.at c.args.sheet.now) = simp part_to_end at c.takes.ensures in it)) ∙ c.if-takes.true) _ refl).0

pub overflow_add-legs : goal.overflow_add-legs
overflow_add-legs c =
    let R = c.loop-at.invariant in
    let z = turn_size R _ _ ((let it : There c.args.version (drop c.loop-at.at c.args.sheet.now) c.in-Some.size = there _ _ _ (simp part_to_end at c.in-Some.ensures) in it)).same in
    omega (arith, R.few, R.fewer, R.inside, z.0, z.1, c.well_formed)

pub overflow_add-number : goal.overflow_add-number
overflow_add-number c =
    let R = c.loop-at.invariant in
    let z = turn_size R _ _ ((let it : There c.args.version (drop c.loop-at.at c.args.sheet.now) c.in-Some.size = there _ _ _ (simp part_to_end at c.in-Some.ensures) in it)).same in
    omega (arith, R.few, R.fewer, R.inside, z.0, z.1, c.well_formed)

pub overflow_add-at : goal.overflow_add-at
overflow_add-at c =
    let R = c.loop-at.invariant in
    let z = turn_size R _ _ ((let it : There c.args.version (drop c.loop-at.at c.args.sheet.now) c.in-Some.size = there _ _ _ (simp part_to_end at c.in-Some.ensures) in it)).same in
    omega (arith, R.few, R.fewer, R.inside, z.0, z.1, c.well_formed)

pub loop-at-smaller-then-takes : goal.loop-at-smaller-then-takes
loop-at-smaller-then-takes c =
    let R = c.loop-at.invariant in
    let z = turn_size R _ _ ((let it : There c.args.version (drop c.loop-at.at c.args.sheet.now) c.in-Some.size = there _ _ _ (simp part_to_end at c.in-Some.ensures) in it)).same in
    omega (arith, R.few, R.fewer, R.inside, z.0, z.1, c.well_formed)

pub loop-at-preserved-then-takes : goal.loop-at-preserved-then-takes
loop-at-preserved-then-takes c =
    let e = simp part_to_end at c.with_leg-wider.ensures in
    (turn_taken c.loop-at.invariant _ ((let it : There c.args.version (drop c.loop-at.at c.args.sheet.now) c.in-Some.size = there _ _ _ (simp part_to_end at c.in-Some.ensures) in it)) (sym ((let it : c.takes.result ≡ takes_at c.args.name.now c.in-Some.size (drop c.loop-at.at c.args.sheet.now) = simp part_to_end at c.takes.ensures in it)) ∙ c.if-takes.true) _ e).1

pub overflow_add-number-in-loop-at : goal.overflow_add-number-in-loop-at
overflow_add-number-in-loop-at c =
    let R = c.loop-at.invariant in
    let z = turn_size R _ _ ((let it : There c.args.version (drop c.loop-at.at c.args.sheet.now) c.in-Some.size = there _ _ _ (simp part_to_end at c.in-Some.ensures) in it)).same in
    omega (arith, R.few, R.fewer, R.inside, z.0, z.1, c.well_formed)

pub overflow_add-at-in-loop-at : goal.overflow_add-at-in-loop-at
overflow_add-at-in-loop-at c =
    let R = c.loop-at.invariant in
    let z = turn_size R _ _ ((let it : There c.args.version (drop c.loop-at.at c.args.sheet.now) c.in-Some.size = there _ _ _ (simp part_to_end at c.in-Some.ensures) in it)).same in
    omega (arith, R.few, R.fewer, R.inside, z.0, z.1, c.well_formed)

pub loop-at-smaller : goal.loop-at-smaller
loop-at-smaller c =
    let R = c.loop-at.invariant in
    let z = turn_size R _ _ ((let it : There c.args.version (drop c.loop-at.at c.args.sheet.now) c.in-Some.size = there _ _ _ (simp part_to_end at c.in-Some.ensures) in it)).same in
    omega (arith, R.few, R.fewer, R.inside, z.0, z.1, c.well_formed)

pub loop-at-preserved : goal.loop-at-preserved
loop-at-preserved c =
    let b = bytes_drop c.args.sheet.now (λ i. (c.type_inv.sheet i).fits) c.loop-at.at in
    turn_left c.loop-at.invariant _ ((let it : There c.args.version (drop c.loop-at.at c.args.sheet.now) c.in-Some.size = there _ _ _ (simp part_to_end at c.in-Some.ensures) in it)) b (sym ((let it : c.takes.result ≡ takes_at c.args.name.now c.in-Some.size (drop c.loop-at.at c.args.sheet.now) = simp part_to_end at c.takes.ensures in it)) ∙ c.if-takes.false)

pub returns : goal.returns
returns c =
    c.answer.ensures ∙ reaching_end c.loop-at.invariant c.loop-at-test.false
