-- `summary::move_bits` meets its contract. Assumes nothing.
use Rattle.std.proofs.Common.{◌≡◌, arith}
use Rattle.summary.proofs.Words.{moved_none}
use Rattle.summary.proofs.move_bits.Goals as goal

pub returns-else-to-from : goal.returns-else-to-from
returns-else-to-from c =
    let e : c.args.from ≡ c.args.to = omega (arith, c.if-to-from.false, c.if-from-to.false) in moved_none c.args.size e
