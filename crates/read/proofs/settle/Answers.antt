-- `read::settle` meets its contract. Assumes nothing.
use mathlib.Core.Path.{◌≡◌, ap}
use native.Mathlib.Omega.{arith}
use borrow.Author.Rules.{rules}
use Rattle.std.specs.Prelude.{Err}
use Rattle.format.specs.Answers.{verdict_of}
use Rattle.read.proofs.Whole.{read_small, read_done, settles_good, settles_refused}
use Rattle.read.proofs.settle.Goals as goal

pub returns-in_err-total : goal.returns-in_err-total
returns-in_err-total c =
    let e : c.from_residual.result ≡ Err c.in_err-total.field-0.0 = search rules in
    rw e (settles_refused _ _ _ _ c.in_err-total.was)

pub returns-then-sheet-total : goal.returns-then-sheet-total
returns-then-sheet-total c =
    let e = ap verdict_of c.in_ok-total.was in
    rw c.at.ensures (settles_good _ _ _ _ _ e (read_small _ _ c.requires.0 _ (c.requires.1 e) _ e c.if-sheet-total.true))

pub fill-requires : goal.fill-requires
fill-requires c =
    let e = ap verdict_of c.in_ok-total.was in
    (c.requires.0, record { bytes_are = (c.requires.1 e).bytes_are; fits = omega (arith, c.if-sheet-total.false) })

pub returns : goal.returns
returns c =
    let e = ap verdict_of c.in_ok-total.was in
    settles_good _ _ _ _ _ e (read_done _ _ c.requires.0 _ (c.requires.1 e) _ e (omega (arith, c.if-sheet-total.false)) _ c.fill.ensures)
