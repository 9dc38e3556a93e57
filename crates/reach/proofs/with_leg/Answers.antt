-- `reach::with_leg` meets its contract. Assumes nothing.
use mathlib.Core.Path.{◌∙◌}
use borrow.Author.Rules.{part_to_end}
use Rattle.reach.proofs.Numbers.{box_then}
use Rattle.reach.proofs.with_leg.Goals as goal

pub returns : goal.returns
returns c =
    let p = simp part_to_end at c.point-from.ensures in
    let q = simp part_to_end at c.point-to.ensures in
    c.taken.ensures ∙ rw (c.taken-first.ensures, p, q) (box_then c.args.b _ _)
