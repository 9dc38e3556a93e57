-- `capi::cockledrift_read` meets its contract. Assumes nothing.
use Rattle.capi.proofs.Tells.{tells}
use Rattle.capi.proofs.cockledrift_read.Goals as goal

pub returns : goal.returns
returns c = record { answer = tells c.read-a.result c.tell.ensures c.read-a.ensures.answer; sheet = c.read-a.ensures.sheet }
