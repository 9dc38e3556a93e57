-- `listing::rest_lines` meets its contract: what is put so far and what is left of the sheet come to all lines. Assumes nothing.
use native.Mathlib.Omega.{arith}
use borrow.Author.Rules.{rules}
use mathlib.Core.Path.{◌∙◌}
use Rattle.listing.proofs.Stores.{put_length}
use Rattle.listing.proofs.Sheets.{entry_none, entry_at, entry_place, listed_none, listed_more, listed_all}
use Rattle.listing.proofs.rest_lines.Goals as goal

pub loop-entry-init : goal.loop-entry-init
loop-entry-init c = listed_none _ _ _ _ _ c.requires.0

pub end_line-requires : goal.end_line-requires
end_line-requires c =
    let i = c.loop-entry.invariant in
    omega (arith, i.put.few, i.inside, c.requires)

pub shape_of-out-in_default : goal.shape_of-out-in_default
shape_of-out-in_default c =
    put_length c.end_line.ensures ∙ put_length c.loop-entry.invariant.put

pub returns-in_default : goal.returns-in_default
returns-in_default c =
    listed_all c.loop-entry.invariant (entry_none _ c.args.sheet.now c.loop-entry.at c.in_default.ensures) c.end_line.ensures

pub record_line-k-requires : goal.record_line-k-requires
record_line-k-requires c =
    let i = c.loop-entry.invariant in (
      omega (arith, i.put.few, i.inside, c.requires),
      (entry_place _ _ _ _ c.in-Some.ensures c.loop-entry.invariant.inside).label_short,
    )

pub overflow_add-records : goal.overflow_add-records
overflow_add-records c =
    let i = c.loop-entry.invariant in
    omega (arith, i.few, i.inside, c.requires)

pub loop-entry-preserved : goal.loop-entry-preserved
loop-entry-preserved c =
    listed_more c.loop-entry.invariant
    (λ i. (c.type_inv.sheet i).fits)
    (entry_at _ c.args.sheet.now
    c.loop-entry.at _ c.in-Some.ensures) c.record_line-k.ensures

pub slice_bounds-rest-count : goal.slice_bounds-rest-count
slice_bounds-rest-count c =
    let i = c.loop-entry.invariant.inside in search rules

pub slice_bounds-rest-start : goal.slice_bounds-rest-start
slice_bounds-rest-start c =
    let i = c.loop-entry.invariant.inside in search rules

pub slice_bounds-rest-end : goal.slice_bounds-rest-end
slice_bounds-rest-end c =
    let i = c.loop-entry.invariant.inside in search rules

pub slice_bounds-record_line-count : goal.slice_bounds-record_line-count
slice_bounds-record_line-count c =
    let i = c.in-Some.ensures.inside in search rules

pub slice_bounds-record_line-start : goal.slice_bounds-record_line-start
slice_bounds-record_line-start c =
    let i = c.in-Some.ensures.inside in search rules

pub slice_bounds-record_line-end : goal.slice_bounds-record_line-end
slice_bounds-record_line-end c =
    let i = c.in-Some.ensures.inside in search rules

pub overflow_add-at : goal.overflow_add-at
overflow_add-at c =
    omega (
      arith,
      (entry_place _ _ _ _ c.in-Some.ensures c.loop-entry.invariant.inside).behind,
      c.requires,
    )

pub loop-entry-smaller : goal.loop-entry-smaller
loop-entry-smaller c =
    let p = entry_place _ _ _ _ c.in-Some.ensures c.loop-entry.invariant.inside in omega (arith, p.behind, p.least)
