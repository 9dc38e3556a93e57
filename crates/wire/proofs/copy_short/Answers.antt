-- `wire::copy_short` meets its contract. Assumes nothing.
use native.Mathlib.Omega.{arith}
use Rattle.wire.proofs.Laws.{nothing_over}
use Rattle.wire.proofs.copy_short.Goals as goal

pub returns-else-n-eq1 : goal.returns-else-n-eq1
returns-else-n-eq1 c = nothing_over c.args.src.now c.args.dst.now (omega arith)
