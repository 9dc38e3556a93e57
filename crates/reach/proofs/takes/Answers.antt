-- `reach::takes` meets its contract. Assumes nothing.
use native.Mathlib.Omega.{arith}
use borrow.Author.Tests.{eq-eqb, ne_eqb}
use mathlib.Core.Path.{◌∙◌}
use Rattle.reach.proofs.takes.Goals as goal

pub returns-then-s-ne1 : goal.returns-then-s-ne1
returns-then-s-ne1 c = simp (ne_eqb _ _ c.if-s-ne1.true)

pub slice_bounds-takes_part-count : goal.slice_bounds-takes_part-count
slice_bounds-takes_part-count c =
    omega (arith, c.requires.2 c.if-s-ne1.false)

pub slice_bounds-takes_part-start : goal.slice_bounds-takes_part-start
slice_bounds-takes_part-start c =
    omega (arith, c.requires.2 c.if-s-ne1.false)

pub returns : goal.returns
returns c =
    c.takes_part.ensures ∙ simp (eq-eqb _ _ c.if-s-ne1.false)
