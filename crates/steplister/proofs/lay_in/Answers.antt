-- `steplister::lay_in` meets its contract. Assumes nothing.
use native.Mathlib.Omega.{arith}
use mathlib.Core.Path.{refl, sym, ◌∙◌}
use Rattle.wire.proofs.Laws.{laid_none, laid_some, laid_part}
use Rattle.steplister.proofs.lay_in.Goals as goal

pub returns-then-sheet-at : goal.returns-then-sheet-at
returns-then-sheet-at c = sym (laid_none _ _ _ (omega (arith, c.if-sheet-at.true)))

pub returns-then-sheet-at-2 : goal.returns-then-sheet-at-2
returns-then-sheet-at-2 c = sym (laid_none _ _ _ (omega (arith, c.if-sheet-at-2.true, c.if-sheet-at.false)))

pub returns : goal.returns
returns c =
    let i = c.if-sheet-at.false in
    let j = c.if-sheet-at-2.false in
    rw c.copy.ensures
    (laid_part c.args.sheet.now c.args.part.now c.args.at (omega (arith, i)) _ refl
    ∙ sym (laid_some c.args.sheet.now c.args.part.now c.args.at (omega (arith, i, j))))
