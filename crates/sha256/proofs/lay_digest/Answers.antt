-- `sha256::lay_digest` meets its contract. Assumes nothing.
use Rattle.sha256.proofs.Padding.{digest_done}
use Rattle.sha256.proofs.lay_digest.Goals as goal

pub returns : goal.returns
returns c =
    digest_done c.args.out.now _ _
    c.args.s
    c.requires c.lay_half.ensures
    c.lay_half-2.ensures
