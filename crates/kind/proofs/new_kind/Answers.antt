-- `kind::new_kind` meets its contract. Assumes nothing.
use borrow.Author.Tests.{lt-ltb, le-ltb}
use mathlib.Core.Path.{◌∙◌}
use Rattle.format.specs.Bytes.{pick}
use Rattle.format.specs.Items.{new_part}
use Rattle.kind.specs.Kinds.{new_item}
use Rattle.kind.proofs.new_kind.Goals as goal

pub returns-then-code-lt48 : goal.returns-then-code-lt48
unfolding new_item pick
returns-then-code-lt48 c =
    (λ s. c.new_low.ensures.0 new_part s ∙ simp (lt-ltb _ _ c.if-code-lt48.true), c.new_low.ensures.1)

pub returns : goal.returns
unfolding new_item pick
returns c =
    (λ s. c.new_high.ensures.0 s ∙ simp (le-ltb _ _ c.if-code-lt48.false), c.new_high.ensures.1)
