-- `capi::cockledrift_read_strict` meets its contract. Assumes nothing.
use Rattle.capi.proofs.Tells.{tells}
use Rattle.capi.proofs.cockledrift_read_strict.Goals as goal

pub returns : goal.returns
returns c =
    let R = c.read_strict-a in record { answer = tells R.result c.tell.ensures R.ensures.answer; sheet = R.ensures.sheet; room = R.ensures.room }
