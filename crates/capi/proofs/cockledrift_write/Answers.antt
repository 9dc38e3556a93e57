-- `capi::cockledrift_write` meets its contract. Assumes nothing.
use Rattle.capi.proofs.Tells.{tells}
use Rattle.capi.proofs.cockledrift_write.Goals as goal

pub returns : goal.returns
returns c = record { answer = tells c.write-a.result c.tell.ensures c.write-a.ensures.answer; file = c.write-a.ensures.file }
