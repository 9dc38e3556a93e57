-- `sha256::lay_length` meets its contract. Assumes nothing.
use Rattle.sha256.proofs.Padding.{length_done}
use Rattle.sha256.proofs.lay_length.Goals as goal

pub returns : goal.returns
returns c =
    length_done c.args.b.now _ _
    c.args.n _ _
    c.requires
    c.high_bits.ensures c.low_bits.ensures
    c.lay_be32.ensures c.lay_be32-2.ensures
