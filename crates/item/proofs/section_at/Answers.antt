-- `item::section_at` meets its contract. Assumes nothing.
use borrow.Author.Rules.{part_to_end}
use borrow.Author.Tests.{lt-ltb, le-ltb}
use Rattle.format.specs.Bytes.{pick}
use Rattle.short.specs.Brief.{size_of}
use Rattle.item.proofs.section_at.Goals.{then-code-lt50, else-code-lt50}
use Rattle.item.proofs.section_at.Goals as goal

pub returns : goal.returns
unfolding size_of pick
returns c =
    elim c.if-code-lt50.branch [
      | then-code-lt50 w ↦ rw w.size-is (simp (w.short_dimensions-size.ensures, part_to_end, lt-ltb _ _ w.if-code-lt50.true))
      | else-code-lt50 w ↦ rw w.size-is (simp (w.long_dimensions-size.ensures, part_to_end, le-ltb _ _ w.if-code-lt50.false))
    ]
