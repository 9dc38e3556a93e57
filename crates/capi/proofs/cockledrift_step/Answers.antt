-- `capi::cockledrift_step` meets its contract. Assumes nothing.
use mathlib.Core.Path.{ap, ◌∙◌}
use Rattle.abi.specs.Numbers.{step_numbers}
use Rattle.capi.proofs.cockledrift_step.Goals as goal

pub returns : goal.returns
returns c =
    let S = c.one_step-answer.ensures in record { answer = c.tell_step.ensures ∙ ap step_numbers S.answer; stand = S.stand; «record» = S.buffer }
