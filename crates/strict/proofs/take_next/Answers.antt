-- `strict::take_next` meets its contract. Assumes nothing.
use native.Mathlib.Omega.{arith}
use lib.ListN.{length-drop}
use borrow.Author.Rules.{part_to_end}
use Rattle.item.proofs.Commonest.{station_told}
use Rattle.strict.proofs.take_next.Goals as goal

pub overflow_add-add : goal.overflow_add-add
overflow_add-add c =
    let B = rw (c.in-Some-Place.is, c.in-Some-Place.field-0-is) at c.short_item.ensures in omega (arith, B.add_few)

pub station_at-station-requires : goal.station_at-station-requires
station_at-station-requires c =
    let B = rw (c.in-Some-Place.is, c.in-Some-Place.field-0-is) at c.short_item.ensures in omega (arith, B.there, B.add_few)

pub slice_bounds-extend-count : goal.slice_bounds-extend-count
slice_bounds-extend-count c =
    let B = rw (c.in-Some-Place.is, c.in-Some-Place.field-0-is) at c.short_item.ensures in omega (arith, B.there)

pub slice_bounds-extend-start : goal.slice_bounds-extend-start
slice_bounds-extend-start c =
    let B = rw (c.in-Some-Place.is, c.in-Some-Place.field-0-is) at c.short_item.ensures in omega (arith, B.there)

pub extend-requires : goal.extend-requires
extend-requires c =
    let B = rw (c.in-Some-Place.is, c.in-Some-Place.field-0-is) at c.short_item.ensures in
    (B.few, c.requires.1, simp (part_to_end, length-drop) (omega (arith, B.there)))

pub overflow_add-result : goal.overflow_add-result
overflow_add-result c =
    let B = rw (c.in-Some-Place.is, c.in-Some-Place.field-0-is) at c.short_item.ensures in omega (arith, B.few, B.add_few)

pub overflow_add-result-2 : goal.overflow_add-result-2
overflow_add-result-2 c =
    let B = rw (c.in-Some-Place.is, c.in-Some-Place.field-0-is) at c.short_item.ensures in omega (arith, B.few, B.add_few)

pub returns : goal.returns
returns c =
    let B = rw (c.in-Some-Place.is, c.in-Some-Place.field-0-is) at c.short_item.ensures in
    let e = rw (part_to_end c.args.s.now 2) at c.extend.ensures in
    rw (e, c.station_at-station.ensures)
    (station_told _ c.args.s.now c.args.len _ _ _ _ c.args.bytes.now c.args.setting c.requires.1 c.requires.0 _ B)
