-- `edit::lay` meets its contract. Assumes nothing.
use mathlib.Core.Path.{sym}
use Rattle.wire.proofs.Laws.{laid_none}
use Rattle.edit.proofs.Tail.{lay_fits}
use Rattle.edit.proofs.lay.Goals as goal

pub returns-then-out-end : goal.returns-then-out-end
returns-then-out-end c =
    sym (laid_none c.args.out.now c.args.s.now c.args.at c.if-out-end.true)

pub returns : goal.returns
returns c =
    lay_fits c.args.out.now c.args.s.now _ c.args.at c.if-out-end.false c.copy_words.ensures
