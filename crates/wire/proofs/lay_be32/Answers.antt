-- `wire::lay_be32` meets its contract. Assumes nothing.
use native.Mathlib.Omega.{arith}
use mathlib.Core.Path.{refl}
use Rattle.format.specs.Bytes.{to_be32}
use Rattle.wire.proofs.Laws.{laid_part}
use Rattle.wire.proofs.lay_be32.Goals as goal

pub returns : goal.returns
returns c =
    rw c.put_be32.ensures (laid_part c.args.dst.now (to_be32 c.args.n) c.args.at (omega (arith, c.requires)) _ refl)
