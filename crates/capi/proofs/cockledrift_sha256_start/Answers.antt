-- `capi::cockledrift_sha256_start` meets its contract. Assumes nothing.
use mathlib.Core.Path.{◌∙◌}
use Rattle.capi.proofs.cockledrift_sha256_start.Goals as goal

pub returns : goal.returns
returns c = c.numbers_of-numbers.ensures ∙ c.start-run.ensures
