-- `capi::cockledrift_sha256_update` meets its contract. Assumes nothing.
use Rattle.capi.proofs.Digests.{update_stores}
use Rattle.capi.proofs.cockledrift_sha256_update.Goals as goal

pub returns : goal.returns
returns c =
    update_stores c.args.state.now c.numbers_of-numbers.result c.args.block.now _ c.args.bytes.now c.running_of-run.result
    c.update-next.result
    c.running_of-run.ensures c.numbers_of-numbers.ensures c.update-next.ensures
