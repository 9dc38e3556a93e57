-- `summary::put_field` meets its contract. Assumes nothing.
use Rattle.summary.proofs.Bits.{field_put}
use Rattle.summary.proofs.put_field.Goals as goal

pub returns : goal.returns
returns c =
    field_put c.args.w c.args.s c.args.size c.args.v c.low_bits.result c.low_bits.ensures c.requires.0 c.requires.1
