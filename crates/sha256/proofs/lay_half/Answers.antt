-- `sha256::lay_half` meets its contract. Assumes nothing.
use Rattle.sha256.proofs.Padding.{half_done}
use Rattle.sha256.proofs.lay_half.Goals as goal

pub returns : goal.returns
returns c =
    half_done c.args.out.now _ _ _ _ c.args.at _ _ _ _ c.requires c.lay_be32.ensures c.lay_be32-2.ensures
    c.lay_be32-3.ensures c.lay_be32-4.ensures
