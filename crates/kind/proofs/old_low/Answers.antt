-- `kind::old_low` meets its contract. Assumes nothing.
use borrow.Author.Tests.{lt-ltb, le-ltb, eq-eqb, ne_eqb}
use Rattle.format.specs.Bytes.{pick}
use Rattle.format.specs.Items.{old_low_item}
use Rattle.kind.proofs.old_low.Goals as goal

pub returns-then-code-eq0 : goal.returns-then-code-eq0
unfolding old_low_item pick
returns-then-code-eq0 c =
    λ p s. simp (eq-eqb _ _ c.if-code-eq0.true)

pub returns-then-code-lt15 : goal.returns-then-code-lt15
unfolding old_low_item pick
returns-then-code-lt15 c =
    λ p s. simp (ne_eqb _ _ c.if-code-eq0.false, lt-ltb _ _ c.if-code-lt15.true, c.index.ensures.0)

pub returns-then-code-eq15 : goal.returns-then-code-eq15
unfolding old_low_item pick
returns-then-code-eq15 c =
    λ p s. simp (ne_eqb _ _ c.if-code-eq0.false, le-ltb _ _ c.if-code-lt15.false, eq-eqb _ _ c.if-code-eq15.true)

pub returns : goal.returns
unfolding old_low_item pick
returns c =
    λ p s. simp (
      ne_eqb _ _ c.if-code-eq0.false,
      le-ltb _ _ c.if-code-lt15.false,
      ne_eqb _ _ c.if-code-eq15.false,
      c.index-2.ensures.0,
    )
