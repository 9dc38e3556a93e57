-- `capi::cockledrift_salvage` meets its contract. Assumes nothing.
use mathlib.Core.Path.{ap, ◌∙◌}
use Rattle.capi.specs.Salvages.{salvage_numbers}
use Rattle.capi.proofs.cockledrift_salvage.Goals as goal

pub returns : goal.returns
returns c =
    let e = c.salvage-s.ensures in record { answer = c.tell_saved.ensures ∙ ap salvage_numbers e.answer; sheet = e.sheet }
