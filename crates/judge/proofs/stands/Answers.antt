-- `judge::stands` meets its contract. Assumes nothing.
use Rattle.judge.proofs.One.{stands_past, stands_part}
use Rattle.judge.proofs.stands.Goals as goal

pub returns-then-file-end : goal.returns-then-file-end
returns-then-file-end c =
    stands_past c.args.file.now c.args.at c.args.codes.now c.requires.0 c.if-file-end.true

pub returns : goal.returns
returns c =
    stands_part c.args.file.now c.args.at c.args.codes.now c.same_bytes.ensures
