-- `wire::lay` meets its contract. Assumes nothing.
use native.Mathlib.Omega.{arith}
use mathlib.Core.Path.{refl}
use Rattle.wire.proofs.Laws.{laid_part}
use Rattle.wire.proofs.lay.Goals as goal

pub returns : goal.returns
returns c =
    rw c.copy.ensures (laid_part c.args.dst.now c.args.src.now c.args.at (omega (arith, c.requires)) _ refl)
