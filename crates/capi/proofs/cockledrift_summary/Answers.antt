-- `capi::cockledrift_summary` meets its contract. Assumes nothing.
use mathlib.Core.Path.{ap, ◌∙◌}
use Rattle.abi.specs.Summaries.{summary_numbers}
use Rattle.capi.proofs.cockledrift_summary.Goals as goal

pub returns : goal.returns
returns c =
    let e = c.summarize-s.ensures in record { answer = c.tell_summed.ensures ∙ ap summary_numbers e.answer; words = e.words }
