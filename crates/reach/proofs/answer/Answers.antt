-- `reach::answer` meets its contract. Assumes nothing.
use native.Mathlib.Omega.{arith}
use Rattle.reach.proofs.Numbers.{read, box_read}
use Rattle.reach.proofs.Turn.{none_taken, some_taken}
use Rattle.reach.proofs.answer.Goals as goal

pub returns-then-legs-eq0 : goal.returns-then-legs-eq0
returns-then-legs-eq0 c = rw c.at.ensures (none_taken _ c.args.b c.if-legs-eq0.true)

pub returns : goal.returns
returns c =
    some_taken c.args.legs c.args.b c.if-legs-eq0.false _
    (box_read c.args.b
    (read _ (omega arith))
    (read _ (omega arith))
    (read _ (omega arith))
    (read _ (omega arith))
    (read _ (omega arith))
    (read _ (omega arith)))
