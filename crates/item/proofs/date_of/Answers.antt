-- `item::date_of` meets its contract. Assumes nothing.
use borrow.Author.Tests.{eq-eqb, ne_eqb}
use Rattle.format.specs.Bytes.{pick}
use Rattle.format.specs.State.{date_of}
use Rattle.item.proofs.date_of.Goals as goal

pub returns-then-first-last : goal.returns-then-first-last
unfolding date_of pick
returns-then-first-last c =
    simp (eq-eqb _ _ c.if-first-last.true)

pub returns : goal.returns
unfolding date_of pick
returns c =
    simp (ne_eqb _ _ c.if-first-last.false)
