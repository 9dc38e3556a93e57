-- `piece::same_four` meets its contract: equal numbers have equal bytes. Assumes nothing.
use native.Mathlib.Omega.{arith}
use mathlib.Core.Path.{sym, ◌∙◌}
use Rattle.format.specs.Bytes.{le32}
use Rattle.piece.proofs.Laws.{four_same, four_other}
use Rattle.piece.proofs.same_four.Goals as goal

pub returns-then-x-y : goal.returns-then-x-y
returns-then-x-y c =
    let e = c.get_le32-x.ensures.0 in
    four_other c.args.a.now c.args.b.now (omega arith) (omega arith) (λ q. c.if-x-y.true (e ∙ q ∙ sym c.get_le32-y.ensures.0))

pub returns : goal.returns
unfolding le32
returns c =
    four_same c.args.a.now c.args.b.now (omega arith) (omega arith) (omega arith) (omega arith) (omega arith) (omega arith)
