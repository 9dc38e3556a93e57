-- `capi::cockledrift_entrances` meets its contract. Assumes nothing.
use mathlib.Core.Path.{ap, ◌∙◌}
use Rattle.abi.specs.Summaries.{entrance_numbers}
use Rattle.capi.proofs.cockledrift_entrances.Goals as goal

pub returns : goal.returns
returns c = c.tell_entrances.ensures ∙ ap entrance_numbers c.entrances-e.ensures
