-- `compare` meets its contract. Assumes nothing.
use mathlib.Core.Path.{ap₂, ◌∙◌}
use Rattle.format.specs.Times.{judged, compare_of}
use Rattle.timeline.proofs.compare.Goals as goal

pub returns : goal.returns
unfolding compare_of
returns c =
    c.judge.ensures ∙ ap₂ judged c.stamp.ensures.0 c.stamp-2.ensures.0
