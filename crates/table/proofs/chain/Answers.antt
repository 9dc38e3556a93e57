-- `table::chain` meets its contract. Assumes nothing.
use native.Mathlib.Nat.{mod-lt}
use mathlib.Core.Path.{refl}
use native.Mathlib.Omega.{arith}
use Rattle.table.proofs.chain.Goals as goal

pub returns : goal.returns
returns c = (refl, mod-lt c.args.h (omega arith))
