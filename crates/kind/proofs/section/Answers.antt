-- `kind::section` meets its contract. Assumes nothing.
use borrow.Author.Tests.{lt-ltb, le-ltb}
use Rattle.format.specs.Bytes.{pick}
use Rattle.format.specs.Items.{section_item}
use Rattle.kind.specs.Kinds.{labelled_by}
use Rattle.kind.proofs.section.Goals as goal

pub returns-then-code-lt50 : goal.returns-then-code-lt50
unfolding section_item labelled_by pick
returns-then-code-lt50 c =
    (λ p s. simp (lt-ltb _ _ c.if-code-lt50.true), tt)

pub returns : goal.returns
unfolding section_item labelled_by pick
returns c =
    (λ p s. simp (le-ltb _ _ c.if-code-lt50.false), tt)
