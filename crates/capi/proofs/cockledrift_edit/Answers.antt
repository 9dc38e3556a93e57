-- `capi::cockledrift_edit` meets its contract. Assumes nothing.
use Rattle.capi.proofs.Tells.{tells}
use Rattle.capi.proofs.cockledrift_edit.Goals as goal

pub returns : goal.returns
returns c = record { answer = tells c.edit-a.result c.tell.ensures c.edit-a.ensures.answer; file = c.edit-a.ensures.file }
