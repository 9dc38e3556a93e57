-- `sha256::last_bytes` meets its contract. Assumes nothing.
use Rattle.sha256.proofs.Padding.{last_block}
use Rattle.sha256.proofs.last_bytes.Goals as goal

pub returns : goal.returns
returns c =
    last_block c.args.s.now _ _ c.requires
    c.zeros-b.ensures c.copy.ensures
