-- `good_line` meets its contract, test by test. Assumes nothing.
use mathlib.Core.Path.{ap, ◌∙◌}
use native.Mathlib.Omega.{arith}
use Rattle.std.specs.Prelude.{Some}
use Rattle.header.proofs.Lines.{line_unended, line_long, line_empty, line_returned, line_ends}
use Rattle.header.proofs.good_line.Goals as goal

pub returns-then-s-end : goal.returns-then-s-end
returns-then-s-end c =
    line_unended c.args.limit c.args.s.now (omega arith)

pub returns-then-limit-end : goal.returns-then-limit-end
returns-then-limit-end c =
    line_long c.args.limit c.args.s.now (omega arith) (omega arith)

pub returns-then-end-eq0 : goal.returns-then-end-eq0
returns-then-end-eq0 c =
    line_empty c.args.limit c.args.s.now (omega arith) (omega arith) (omega arith)

pub returns-then-s-end-eq13 : goal.returns-then-s-end-eq13
returns-then-s-end-eq13 c =
    line_returned c.args.limit c.args.s.now (omega arith) (omega arith) (omega arith)
    (rw c.line_end-end.ensures at c.if-s-end-eq13.true)

pub returns : goal.returns
returns c =
    ap Some c.line_end-end.ensures
    ∙ line_ends c.args.limit c.args.s.now (omega arith) (omega arith) (omega arith)
    (rw c.line_end-end.ensures at c.if-s-end-eq13.false)
