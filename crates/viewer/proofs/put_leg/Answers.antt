-- `viewer::put_leg` meets its contract. Assumes nothing.
use mathlib.Core.Path.{◌≡◌, refl, ◌∙◌}
use mathlib.Core.Bool.{false}
use borrow.Author.Rules.{part_to_end}
use Rattle.format.specs.Viewer.{less_origin, too_far}
use Rattle.viewer.proofs.Walk.{six_near}
use Rattle.viewer.proofs.put_leg.Goals as goal

pub put_ends-requires : goal.put_ends-requires
put_ends-requires c =
    let p = simp part_to_end at c.place_at-from.ensures in
    let q = simp part_to_end at c.place_at-to.ensures in
    let n = six_near c.args.origin c.args.s.now c.requires.2 in
    let from_near : too_far (less_origin c.args.origin c.place_at-from.result) ≡ false = rw p n.0 in
    let to_near : too_far (less_origin c.args.origin c.place_at-to.result) ≡ false = rw q n.1 in
    (c.requires.0, cc, cc)

pub returns : goal.returns
returns c =
    let p = simp part_to_end at c.place_at-from.ensures in
    let q = simp part_to_end at c.place_at-to.ensures in
    c.put_ends.ensures ∙ rw (p, q) refl
