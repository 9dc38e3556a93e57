-- `write_v7::put_next` meets its contract. Assumes nothing.
use native.Mathlib.Omega.{arith}
use lib.ListN.{length-take, length-drop}
use Rattle.write_v7.proofs.Turn.{placed_sizes, found_turns}
use Rattle.write_v7.proofs.put_next.Goals as goal

pub overflow_add-end : goal.overflow_add-end
overflow_add-end c =
    let S = placed_sizes c.args.sheet.now c.args.at c.args.hand c.in-Some.item c.label_at.result c.requires.0 c.requires.1 c.in-Some.ensures c.label_at.ensures in
    omega (arith, S, c.requires.1.ordered)

pub overflow_add-added : goal.overflow_add-added
overflow_add-added c =
    let S = placed_sizes c.args.sheet.now c.args.at c.args.hand c.in-Some.item c.label_at.result c.requires.0 c.requires.1 c.in-Some.ensures c.label_at.ensures in
    omega (arith, S, c.requires.1.ordered)

pub slice_bounds-added-count : goal.slice_bounds-added-count
slice_bounds-added-count c =
    let S = placed_sizes c.args.sheet.now c.args.at c.args.hand c.in-Some.item c.label_at.result c.requires.0 c.requires.1 c.in-Some.ensures c.label_at.ensures in
    omega (arith, S, c.requires.1.ordered)

pub slice_bounds-added-start : goal.slice_bounds-added-start
slice_bounds-added-start c =
    let S = placed_sizes c.args.sheet.now c.args.at c.args.hand c.in-Some.item c.label_at.result c.requires.0 c.requires.1 c.in-Some.ensures c.label_at.ensures in
    omega (arith, S, c.requires.1.ordered)

pub slice_bounds-added-end : goal.slice_bounds-added-end
slice_bounds-added-end c =
    let S = placed_sizes c.args.sheet.now c.args.at c.args.hand c.in-Some.item c.label_at.result c.requires.0 c.requires.1 c.in-Some.ensures c.label_at.ensures in
    omega (arith, S, c.requires.1.ordered)

pub put_shorten-a-requires : goal.put_shorten-a-requires
put_shorten-a-requires c =
    let S = placed_sizes c.args.sheet.now c.args.at c.args.hand c.in-Some.item c.label_at.result c.requires.0 c.requires.1 c.in-Some.ensures c.label_at.ensures in
    (omega arith, omega (arith, c.requires.1.short), S.first)

pub put_item-bytes-requires : goal.put_item-bytes-requires
put_item-bytes-requires c =
    let S = placed_sizes c.args.sheet.now c.args.at c.args.hand c.in-Some.item c.label_at.result c.requires.0 c.requires.1 c.in-Some.ensures c.label_at.ensures in
    let F = c.in-Some.ensures in
    let P = F.3 0 in (
      omega (arith, c.put_shorten-a.ensures.most),
      F.0,
      simp (length-take, length-drop) (omega (arith, S.few_added, S.ends, S.starts)),
      omega (arith, P.headed.inside, P.within),
    )

pub hand_found-requires : goal.hand_found-requires
hand_found-requires c =
    let P = c.in-Some.ensures.3 0 in
    omega (arith, P.headed.inside, P.within)

pub returns : goal.returns
returns c =
    let F = c.in-Some.ensures in
    let e = c.label_at.ensures in
    rw (c.hand_found.ensures, e)
    (found_turns c.args.version c.args.sheet.now c.args.at c.args.hand c.requires.0 c.requires.1 _ _ _ _ (F.3 c.args.version) F.2 _ _ _ _ _
    c.put_shorten-a.ensures (rw (e, c.old_code.ensures) at c.put_item-bytes.ensures))
