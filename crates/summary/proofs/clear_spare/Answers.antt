-- `summary::clear_spare` meets its contract. Assumes nothing.
use Rattle.std.proofs.Common.{◌≡◌, ◌%◌, arith}
use Rattle.summary.proofs.Words.{cleared, cleared_none}
use Rattle.summary.proofs.clear_spare.Goals as goal

pub returns-then-s-gt0 : goal.returns-then-s-gt0
returns-then-s-gt0 c =
    cleared c.args.n c.if-s-gt0.true c.write_in.ensures

pub returns-else-s-gt0 : goal.returns-else-s-gt0
returns-else-s-gt0 c =
    let e : c.args.n % 64 ≡ 0 = omega (arith, c.if-s-gt0.false) in cleared_none c.args.n e
