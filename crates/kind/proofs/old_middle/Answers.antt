-- `kind::old_middle` meets its contract. Assumes nothing.
use borrow.Author.Tests.{lt-ltb, le-ltb, eq-eqb, ne_eqb}
use Rattle.format.specs.Bytes.{pick}
use mathlib.Core.Path.{◌∙◌}
use Rattle.format.specs.Items.{old_middle_item}
use Rattle.kind.proofs.old_middle.Goals as goal

pub returns-then-version-lt6 : goal.returns-then-version-lt6
unfolding old_middle_item pick
returns-then-version-lt6 c =
    λ p s. simp (eq-eqb _ _ c.if-code-eq34.true, lt-ltb _ _ c.if-version-lt6.true)

pub returns-then-code-eq34 : goal.returns-then-code-eq34
unfolding old_middle_item pick
returns-then-code-eq34 c =
    λ p s. simp (eq-eqb _ _ c.if-code-eq34.true, le-ltb _ _ c.if-version-lt6.false)

pub returns-then-version-lt4 : goal.returns-then-version-lt4
unfolding old_middle_item pick
returns-then-version-lt4 c =
    λ p s. simp (ne_eqb _ _ c.if-code-eq34.false, lt-ltb _ _ c.if-version-lt4.true)

pub returns-then-version-lt7 : goal.returns-then-version-lt7
unfolding old_middle_item pick
returns-then-version-lt7 c =
    λ p s. c.old_date.ensures p s ∙ simp
    (ne_eqb _ _ c.if-code-eq34.false, le-ltb _ _ c.if-version-lt4.false, lt-ltb _ _ c.if-version-lt7.true)

pub returns : goal.returns
unfolding old_middle_item pick
returns c =
    λ p s. c.v7_date.ensures p s ∙ simp (
      ne_eqb _ _ c.if-code-eq34.false,
      le-ltb _ _ c.if-version-lt4.false,
      le-ltb _ _ c.if-version-lt7.false,
    )
