-- `capi::cockledrift_reach` meets its contract. Assumes nothing.
use mathlib.Core.Path.{ap, ◌∙◌}
use Rattle.capi.specs.Reaches.{reach_numbers}
use Rattle.capi.proofs.cockledrift_reach.Goals as goal

pub returns : goal.returns
returns c = c.tell_reach.ensures ∙ ap reach_numbers c.reach-r.ensures
