-- `summary::count_records` meets its contract. Assumes nothing.
use Rattle.std.proofs.Common.{drop, arith}
use borrow.Author.Rules.{part_to_end}
use Rattle.reach.proofs.Turn.{There, there}
use Rattle.summary.proofs.Walk.{walked_none, walked_end, walked_flawed, walked_size, walked_next}
use Rattle.summary.proofs.count_records.Goals as goal

pub loop-at-init : goal.loop-at-init
loop-at-init c = walked_none _ _ _ c.requires

pub slice_bounds-other_size-count : goal.slice_bounds-other_size-count
slice_bounds-other_size-count c = omega (arith, c.loop-at.invariant.inside)

pub slice_bounds-other_size-start : goal.slice_bounds-other_size-start
slice_bounds-other_size-start c = omega (arith, c.loop-at.invariant.inside)

pub returns-in_default : goal.returns-in_default
returns-in_default c =
    rw c.at.ensures (walked_flawed c.loop-at.invariant c.loop-at-test.true (simp part_to_end at c.in_default.ensures))

pub overflow_add-number : goal.overflow_add-number
overflow_add-number c =
    let W = c.loop-at.invariant in
    let z = walked_size W _ ((let it : There c.args.version (drop c.loop-at.at c.args.s.now) c.in-Some.size = there _ _ _ (simp part_to_end at c.in-Some.ensures) in it)) in
    omega (arith, W.early, W.inside, z.0, z.1, c.well_formed)

pub overflow_add-at : goal.overflow_add-at
overflow_add-at c =
    let W = c.loop-at.invariant in
    let z = walked_size W _ ((let it : There c.args.version (drop c.loop-at.at c.args.s.now) c.in-Some.size = there _ _ _ (simp part_to_end at c.in-Some.ensures) in it)) in
    omega (arith, W.early, W.inside, z.0, z.1, c.well_formed)

pub loop-at-smaller : goal.loop-at-smaller
loop-at-smaller c =
    let W = c.loop-at.invariant in
    let z = walked_size W _ ((let it : There c.args.version (drop c.loop-at.at c.args.s.now) c.in-Some.size = there _ _ _ (simp part_to_end at c.in-Some.ensures) in it)) in
    omega (arith, W.early, W.inside, z.0, z.1, c.well_formed)

pub loop-at-preserved : goal.loop-at-preserved
loop-at-preserved c =
    walked_next c.loop-at.invariant _ ((let it : There c.args.version (drop c.loop-at.at c.args.s.now) c.in-Some.size = there _ _ _ (simp part_to_end at c.in-Some.ensures) in it))

pub returns : goal.returns
returns c = walked_end c.loop-at.invariant c.loop-at-test.false
