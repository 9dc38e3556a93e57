-- `listing::records_verdict` meets its contract: the verdict on what is left is that on all. Assumes nothing.
use native.Mathlib.Omega.{arith}
use borrow.Author.Rules.{rules}
use Rattle.listing.proofs.Sheets.{entry_none, entry_at, entry_place, judged_none, judged_more, judged_good, judged_bad}
use Rattle.listing.proofs.records_verdict.Goals as goal

pub loop-at-init : goal.loop-at-init
loop-at-init c = judged_none _ _ _ c.requires

pub returns : goal.returns
returns c = judged_good c.loop-at.invariant c.loop-at-test.false

pub returns-in_default : goal.returns-in_default
returns-in_default c =
    rw c.at.ensures (judged_bad c.loop-at.invariant c.loop-at-test.true (entry_none _ c.args.sheet.now c.loop-at.at c.in_default.ensures))

pub overflow_add-record : goal.overflow_add-record
overflow_add-record c =
    let i = c.loop-at.invariant in
    omega (arith, i.few, i.inside, c.well_formed)

pub loop-at-preserved : goal.loop-at-preserved
loop-at-preserved c =
    judged_more c.loop-at.invariant
    (entry_at _ c.args.sheet.now c.loop-at.at _ c.in-Some.ensures)

pub slice_bounds-read_entry-count : goal.slice_bounds-read_entry-count
slice_bounds-read_entry-count c =
    let i = c.loop-at.invariant.inside in search rules

pub slice_bounds-read_entry-start : goal.slice_bounds-read_entry-start
slice_bounds-read_entry-start c =
    let i = c.loop-at.invariant.inside in search rules

pub slice_bounds-read_entry-end : goal.slice_bounds-read_entry-end
slice_bounds-read_entry-end c =
    let i = c.loop-at.invariant.inside in search rules

pub overflow_add-at : goal.overflow_add-at
overflow_add-at c =
    omega (
      arith,
      entry_place _ _ _ _ c.in-Some.ensures c.loop-at.invariant.inside,
      c.well_formed,
    )

pub loop-at-smaller : goal.loop-at-smaller
loop-at-smaller c =
    omega (
      arith,
      entry_place _ _ _ _ c.in-Some.ensures c.loop-at.invariant.inside,
      c.well_formed,
    )
