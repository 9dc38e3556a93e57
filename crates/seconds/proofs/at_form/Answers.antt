-- `at_form` meets its contract, test by test. Assumes nothing.
use borrow.Author.Tests.{le-leb, lt-leb, eq-eqb, ne_eqb}
use borrow.Author.Rules.{part_to_end}
use Rattle.format.specs.Bytes.{pick}
use Rattle.format.specs.Times.{at_form, decimal}
use Rattle.seconds.specs.Reading.{number_from}
use Rattle.seconds.proofs.Digits.{and_no}
use Rattle.seconds.proofs.at_form.Goals as goal

pub returns-then-line-lt2 : goal.returns-then-line-lt2
unfolding at_form pick
returns-then-line-lt2 c = simp (lt-leb _ _ c.if-line-lt2.true, and_no)

pub returns-then-line-gt11 : goal.returns-then-line-gt11
unfolding at_form pick
returns-then-line-gt11 c = simp (lt-leb _ _ c.if-line-gt11.true, and_no)

pub returns-then-line-ne64 : goal.returns-then-line-ne64
unfolding at_form pick
returns-then-line-ne64 c = simp (ne_eqb _ _ c.if-line-ne64.true)

pub returns : goal.returns
unfolding at_form number_from decimal
returns c =
    simp (
      eq-eqb _ _ c.if-line-ne64.false,
      le-leb _ _ c.if-line-lt2.false,
      le-leb _ _ c.if-line-gt11.false,
    ) (simp part_to_end at c.number.ensures)
