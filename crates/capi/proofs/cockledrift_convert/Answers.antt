-- `capi::cockledrift_convert` meets its contract. Assumes nothing.
use Rattle.capi.proofs.Tells.{tells}
use Rattle.capi.proofs.cockledrift_convert.Goals as goal

pub returns : goal.returns
returns c = record { answer = tells c.convert-converted.result c.tell.ensures c.convert-converted.ensures.answer; sheet = c.convert-converted.ensures.sheet; file = c.convert-converted.ensures.file }
