-- `plain::put_placed` meets its contract. Assumes nothing.
use native.Mathlib.Omega.{arith}
use lib.ListN.{length, length-drop}
use borrow.Author.Rules.{part_to_end}
use Rattle.plain.proofs.Stores.{puts_none, puts_all, pieces}
use Rattle.plain.proofs.Placing.{place_tail, place_inside}
use borrow.Author.Rules.{rules}
use Rattle.plain.proofs.put_placed.Goals as goal

pub returns-then-out-n : goal.returns-then-out-n
returns-then-out-n c =
    let z = (place_inside c.args.form c.requires.0).1 in
    rw z at (puts_none c.args.out.now c.args.code (length c.args.added.now) c.args.added.now c.args.form c.args.s.now c.requires.1 (rw z c.if-out-n.true))

pub slice_bounds-put_place-count : goal.slice_bounds-put_place-count
slice_bounds-put_place-count c =
    let z = (place_inside c.args.form c.requires.0).0 in
    omega (arith, z, c.requires.2, c.place_at.ensures)

pub slice_bounds-put_place-start : goal.slice_bounds-put_place-start
slice_bounds-put_place-start c =
    let z = (place_inside c.args.form c.requires.0).0 in
    omega (arith, z, c.requires.2, c.place_at.ensures)

pub put_place-requires : goal.put_place-requires
put_place-requires c =
    let z = (place_inside c.args.form
    c.requires.0).0 in
    let e = c.place_at.ensures in
    (simp (part_to_end, length-drop) (omega (arith, z, e, c.requires.2)), search rules)

pub returns : goal.returns
returns c =
    let z = (place_inside c.args.form c.requires.0).1 in
    let h = c.if-out-n.false in
    let e = rw (part_to_end c.args.s.now c.place_at.result, c.place_at.ensures, place_tail c.args.form c.requires.0 c.args.s.now) at c.put_place.ensures in
    rw z at
    (puts_all c.args.out.now c.args.code (length c.args.added.now) c.args.added.now c.args.form c.args.s.now c.requires.1 _ (rw z h)
    (pieces c.args.out.now c.args.code (length c.args.added.now) c.args.added.now c.args.form c.args.s.now c.requires.1 _ _ _ (rw z h)
    c.put_two.ensures c.copy_short.ensures e))
