-- `marks` meets its contract, byte by byte. Assumes nothing.
use borrow.Author.Tests.{eq-eqb, ne_eqb}
use Rattle.format.specs.Times.{text_marks}
use Rattle.seconds.proofs.Forms.{last_mark}
use Rattle.seconds.proofs.marks.Goals as goal

pub returns-then-line-ne44 : goal.returns-then-line-ne44
unfolding text_marks
returns-then-line-ne44 c = simp (ne_eqb _ _ c.if-line-ne44.true)

pub returns-then-line-ne46 : goal.returns-then-line-ne46
unfolding text_marks
returns-then-line-ne46 c = simp (eq-eqb _ _ c.if-line-ne44.false, ne_eqb _ _ c.if-line-ne46.true)

pub returns-then-line-ne46-2 : goal.returns-then-line-ne46-2
unfolding text_marks
returns-then-line-ne46-2 c =
    simp (eq-eqb _ _ c.if-line-ne44.false, eq-eqb _ _ c.if-line-ne46.false, ne_eqb _ _ c.if-line-ne46-2.true)

pub returns-then-line-ne32 : goal.returns-then-line-ne32
unfolding text_marks
returns-then-line-ne32 c =
    simp (eq-eqb _ _ c.if-line-ne44.false, eq-eqb _ _ c.if-line-ne46.false, eq-eqb _ _ c.if-line-ne46-2.false, ne_eqb _ _ c.if-line-ne32.true)

pub returns-then-line-ne58 : goal.returns-then-line-ne58
unfolding text_marks
returns-then-line-ne58 c =
    simp (eq-eqb _ _ c.if-line-ne44.false, eq-eqb _ _ c.if-line-ne46.false, eq-eqb _ _ c.if-line-ne46-2.false, eq-eqb _ _ c.if-line-ne32.false, ne_eqb _ _ c.if-line-ne58.true)

pub returns-then-line-ne58-2 : goal.returns-then-line-ne58-2
unfolding text_marks
returns-then-line-ne58-2 c =
    simp (eq-eqb _ _ c.if-line-ne44.false, eq-eqb _ _ c.if-line-ne46.false, eq-eqb _ _ c.if-line-ne46-2.false, eq-eqb _ _ c.if-line-ne32.false, eq-eqb _ _ c.if-line-ne58.false, ne_eqb _ _ c.if-line-ne58-2.true)

pub returns : goal.returns
returns c =
    last_mark _ c.if-line-ne44.false c.if-line-ne46.false c.if-line-ne46-2.false c.if-line-ne32.false c.if-line-ne58.false c.if-line-ne58-2.false
