-- `summary::mark_of` meets its contract. Assumes nothing.
use Rattle.std.proofs.Common.{sym, ◌∙◌, arith, eq-eqb, ne_eqb}
use Rattle.format.proofs.SummaryWords.{is_one}
use Rattle.summary.proofs.mark_of.Goals as goal

pub returns-then-s-ne2 : goal.returns-then-s-ne2
returns-then-s-ne2 c = simp (ne_eqb _ _ c.if-s-ne2.true)

pub bounds-s-3 : goal.bounds-s-3
bounds-s-3 c =
    omega (arith, c.requires.1 c.if-s-ne2.false)

pub returns : goal.returns
returns c =
    c.from.ensures ∙ simp (eq-eqb _ _ c.if-s-ne2.false) (sym (is_one _ (omega arith)))
