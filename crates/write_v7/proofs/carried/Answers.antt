-- `write_v7::carried` meets its contract. Assumes nothing.
use mathlib.Core.Path.{sym}
use borrow.Author.Tests.{eq-eqb, ne_eqb}
use Rattle.format.proofs.Basics.{pick_true, pick_false}
use Rattle.write_v7.specs.Passing.{carried_style}
use Rattle.write_v7.proofs.carried.Goals as goal

pub returns-then-style-eq0 : goal.returns-then-style-eq0
unfolding carried_style
returns-then-style-eq0 c = sym (pick_true _ _ (eq-eqb _ 0 c.if-style-eq0.true))

pub returns : goal.returns
unfolding carried_style
returns c = sym (pick_false _ _ (ne_eqb _ 0 c.if-style-eq0.false))
