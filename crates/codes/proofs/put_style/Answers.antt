-- `codes::put_style` meets its contract. Assumes nothing.
use Rattle.format.specs.Codes.{style_if}
use mathlib.Core.Path.{sym}
use borrow.Author.Tests.{eq-eqb, ne_eqb}
use Rattle.format.proofs.Basics.{pick_true, pick_false}
use Rattle.part.proofs.Laying.{lays_as, lays_none}
use Rattle.codes.proofs.put_style.Goals as goal

pub returns-then-old-style : goal.returns-then-old-style
unfolding style_if
returns-then-old-style c =
    lays_as (lays_none 1) (sym (pick_true _ _ (eq-eqb _ _ c.if-old-style.true)))

pub returns : goal.returns
unfolding style_if
returns c =
    lays_as c.put.ensures (sym (pick_false _ _ (ne_eqb _ _ c.if-old-style.false)))
