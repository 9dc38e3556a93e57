-- `sha256::update` meets its contract. Assumes nothing.
use Rattle.sha256.proofs.StreamLaws.{update_held}
use Rattle.std.proofs.Common.{refl}
use Rattle.sha256.proofs.update.Goals as goal

pub returns : goal.returns
returns c =
    update_held c.args.run _ _ c.args.block.now _ c.args.bytes.now c.waiting-held.result c.told-block c.waiting-held.ensures.0
    c.take_in-hash.ensures refl
