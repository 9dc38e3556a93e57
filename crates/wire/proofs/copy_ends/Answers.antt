-- `wire::copy_ends` meets its contract. Assumes nothing.
use native.Mathlib.Omega.{arith}
use Rattle.wire.proofs.Laws.{laps_ends}
use Rattle.wire.proofs.copy_ends.Goals as goal

pub returns : goal.returns
returns g c =
    laps_ends _ _ _ _ g.row.N c.copy_exactly.ensures c.copy_exactly-2.ensures
    (omega arith) (omega arith) (omega arith)
