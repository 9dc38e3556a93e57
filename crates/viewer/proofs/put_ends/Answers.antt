-- `viewer::put_ends` meets its contract. Assumes nothing.
use native.Mathlib.Omega.{arith}
use mathlib.Core.Path.{refl, ◌∙◌}
use lib.ListN.{length}
use Rattle.format.specs.Viewer.{less_origin}
use Rattle.viewer.proofs.Numbers.{over_part, over_next}
use Rattle.viewer.proofs.put_ends.Goals as goal

pub returns : goal.returns
returns c =
    let y = c.put_place.new.out in
    let from = less_origin c.args.origin c.args.from in
    let to = less_origin c.args.origin c.args.to in
    rw c.put_place-2.ensures (over_part y to 3 (length y) refl) ∙ over_next c.args.out.now y from to 0 (omega arith) c.put_place.ensures
