-- `sha256::close` meets its contract. Assumes nothing.
use Rattle.std.proofs.Common.{arith}
use Rattle.sha256.proofs.Padding.{short_end, long_end}
use Rattle.sha256.proofs.close.Goals as goal

pub returns-then-s-lt56 : goal.returns-then-s-lt56
returns-then-s-lt56 c =
    short_end c.args.s.now _ _
    c.args.n _ _
    c.requires.1 (omega arith)
    c.last_bytes-b.ensures c.lay_length.ensures c.compress.ensures

pub returns : goal.returns
returns c =
    long_end c.args.s.now _ _ _
    c.args.n _ _ _
    c.requires.1 (omega arith) (omega arith)
    c.last_bytes-b.ensures
    c.zeros-e.ensures c.lay_length-2.ensures
    c.compress-one.ensures c.compress-2.ensures
