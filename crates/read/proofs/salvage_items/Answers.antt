-- `read::salvage_items` meets its contract. Assumes nothing.
use native.Mathlib.Omega.{arith}
use Rattle.read.proofs.Whole.{salvage_small, salvage_done}
use Rattle.read.proofs.SalvageLaws.{report_inside}
use Rattle.read.proofs.salvage_items.Goals as goal

pub returns-then-sheet-bytes : goal.returns-then-sheet-bytes
returns-then-sheet-bytes c =
    let J = c.judged-total.ensures in
    rw (J.1, c.at.ensures) (salvage_small c.args.file.now c.args.head c.requires _ J.0 _ (rw J.1 at c.if-sheet-bytes.true))

pub overflow_sub-result : goal.overflow_sub-result
overflow_sub-result c =
    let J = c.judged-total.ensures in
    let l = rw (← J.0.verdict_is) at (report_inside c.args.head.version c.args.head.place c.args.file.now c.requires.room.inside) in
    omega (arith, l, c.reported-report.ensures.1)

pub returns : goal.returns
returns c =
    let J = c.judged-total.ensures in
    let R = c.reported-report.ensures in
    salvage_done c.args.file.now c.args.head c.requires _ J.0 _ (rw J.1 at c.if-sheet-bytes.false) _ (rw J.1 at c.fill.ensures) _ _ R.0 R.1
