-- `viewer::judge` meets its contract. Assumes nothing.
use mathlib.Core.Path.{sym, ◌∙◌}
use Rattle.viewer.proofs.Whole.{boxed_good, boxed_near}
use Rattle.viewer.proofs.judge.Goals as goal

pub first_far-requires : goal.first_far-requires
first_far-requires c = boxed_good c.requires

pub first_far-requires-then-far_place-2 : goal.first_far-requires-then-far_place-2
first_far-requires-then-far_place-2 c = boxed_good c.requires

pub returns : goal.returns
returns c =
    boxed_near c.requires c.args.origin (sym c.far_place.ensures ∙ c.if-far_place.false) (sym c.far_place-2.ensures ∙ c.if-far_place-2.false)
