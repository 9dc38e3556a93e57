-- `viewer::far_record` meets its contract. Assumes nothing.
use Prim.Native.Nat.{◌≤◌}
use native.Mathlib.Omega.{arith}
use mathlib.Core.Path.{sym, ap, ◌∙◌}
use lib.ListN.{length, length-drop}
use borrow.Author.Rules.{part_to_end}
use borrow.Author.Tests.{ne_eqb}
use Rattle.format.specs.Viewer.{less_origin, too_far}
use Rattle.format.specs.declared.Corner.{Corner}
use Rattle.viewer.proofs.Walk.{from_far, to_far}
use Rattle.viewer.proofs.far_record.Goals as goal

pub returns-then-s-ne1 : goal.returns-then-s-ne1
returns-then-s-ne1 c = simp (ne_eqb _ _ c.if-s-ne1.true)

pub slice_bounds-place_at-count : goal.slice_bounds-place_at-count
slice_bounds-place_at-count c = omega (arith, (let it : 34 ≤ length c.args.s.now = c.requires.1 c.if-s-ne1.false in it))

pub slice_bounds-place_at-start : goal.slice_bounds-place_at-start
slice_bounds-place_at-start c = omega (arith, (let it : 34 ≤ length c.args.s.now = c.requires.1 c.if-s-ne1.false in it))

pub place_at-requires : goal.place_at-requires
place_at-requires c = simp (part_to_end, length-drop) (omega (arith, (let it : 34 ≤ length c.args.s.now = c.requires.1 c.if-s-ne1.false in it)))

pub returns-then-far_place : goal.returns-then-far_place
returns-then-far_place c =
    let p = simp part_to_end at c.place_at.ensures in
    from_far c.args.origin c.args.s.now c.if-s-ne1.false
    (sym (c.far_place.ensures ∙ ap (λ (x : Corner). too_far (less_origin c.args.origin x)) p) ∙ c.if-far_place.true)

pub slice_bounds-place_at-count-2 : goal.slice_bounds-place_at-count-2
slice_bounds-place_at-count-2 c = omega (arith, (let it : 34 ≤ length c.args.s.now = c.requires.1 c.if-s-ne1.false in it))

pub slice_bounds-place_at-start-2 : goal.slice_bounds-place_at-start-2
slice_bounds-place_at-start-2 c = omega (arith, (let it : 34 ≤ length c.args.s.now = c.requires.1 c.if-s-ne1.false in it))

pub place_at-requires-2 : goal.place_at-requires-2
place_at-requires-2 c = simp (part_to_end, length-drop) (omega (arith, (let it : 34 ≤ length c.args.s.now = c.requires.1 c.if-s-ne1.false in it)))

pub returns : goal.returns
returns c =
    let p = simp part_to_end at c.place_at.ensures in
    let q = simp part_to_end at c.place_at-2.ensures in
    to_far c.args.origin c.args.s.now c.if-s-ne1.false
    (sym (c.far_place.ensures ∙ ap (λ (x : Corner). too_far (less_origin c.args.origin x)) p) ∙ c.if-far_place.false) _
    (c.far_place-2.ensures ∙ ap (λ (x : Corner). too_far (less_origin c.args.origin x)) q)
