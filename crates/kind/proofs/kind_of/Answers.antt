-- `kind::kind_of` meets its contract. Assumes nothing.
use borrow.Author.Tests.{lt-ltb, le-ltb}
use Rattle.format.specs.Bytes.{pick}
use mathlib.Core.Path.{◌∙◌}
use Rattle.format.specs.Items.{item_of}
use Rattle.length.specs.Parts.{part_at}
use Rattle.kind.proofs.kind_of.Goals as goal

pub returns-then-code-lt32 : goal.returns-then-code-lt32
unfolding item_of part_at pick
returns-then-code-lt32 c =
    λ s h e. c.old_low.ensures (part_at c.args.version) s
    ∙ simp (e, le-ltb _ _ h, lt-ltb _ _ c.if-version-lt8.true, lt-ltb _ _ c.if-code-lt32.true)

pub returns-then-code-lt48 : goal.returns-then-code-lt48
unfolding item_of part_at pick
returns-then-code-lt48 c =
    λ s h e. c.old_middle.ensures (part_at c.args.version) s
    ∙ simp (
      e,
      le-ltb _ _ h,
      lt-ltb _ _ c.if-version-lt8.true,
      le-ltb _ _ c.if-code-lt32.false,
      lt-ltb _ _ c.if-code-lt48.true,
    )

pub returns-then-version-lt8 : goal.returns-then-version-lt8
unfolding item_of part_at pick
returns-then-version-lt8 c =
    λ s h e. rw (lt-ltb _ _ c.if-version-lt8.true)
    (c.old_high.ensures s ∙ simp (e, le-ltb _ _ h, le-ltb _ _ c.if-code-lt32.false, le-ltb _ _ c.if-code-lt48.false))

pub returns-then-code-lt48-2 : goal.returns-then-code-lt48-2
unfolding item_of part_at pick
returns-then-code-lt48-2 c =
    λ s h e. c.new_low.ensures.0 (part_at c.args.version) s
    ∙ simp (e, le-ltb _ _ h, le-ltb _ _ c.if-version-lt8.false, lt-ltb _ _ c.if-code-lt48-2.true)

pub returns : goal.returns
unfolding item_of part_at pick
returns c =
    λ s h e. rw (le-ltb _ _ c.if-version-lt8.false) (c.new_high.ensures.0 s ∙ simp (e, le-ltb _ _ h, le-ltb _ _ c.if-code-lt48-2.false))
