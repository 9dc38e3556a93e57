-- `measure::dated` meets its contract. Assumes nothing.
use mathlib.Core.Logic.{inl, inr}
use Rattle.measure.proofs.Items.{date_before, date_late, date_on}
use Rattle.measure.proofs.dated.Goals as goal

pub returns-then-last-first : goal.returns-then-last-first
returns-then-last-first c =
    (tt, elim c.then-last-first.either [ inl x ↦ date_before _ _ _ x | inr x ↦ date_late _ _ _ x.0 x.1 ])

pub returns : goal.returns
returns c =
    (tt, date_on _ _ _ c.if-last-first.false c.if-last-gt65535.false)
