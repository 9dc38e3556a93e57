-- `counts::settle` meets its contract. Assumes nothing.
use Rattle.counts.proofs.Left.{settle_big, settle_done}
use Rattle.counts.proofs.settle.Goals as goal

pub returns-then-bytes-gt-FILE_LIMIT : goal.returns-then-bytes-gt-FILE_LIMIT
returns-then-bytes-gt-FILE_LIMIT c = rw (c.in_ok-fault.was, c.at.ensures) (settle_big c.args.version c.args.bytes c.args.records c.if-bytes-gt-FILE_LIMIT.true)

pub returns : goal.returns
returns c = rw c.in_ok-fault.was (settle_done c.args.version c.args.bytes c.args.records c.if-bytes-gt-FILE_LIMIT.false)
