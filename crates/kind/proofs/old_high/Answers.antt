-- `kind::old_high` meets its contract. Assumes nothing.
use borrow.Author.Tests.{lt-ltb, le-ltb}
use Rattle.format.specs.Bytes.{pick}
use mathlib.Core.Path.{◌∙◌}
use Rattle.format.specs.Items.{old_high_item, station_item, line_item, old_part}
use Rattle.kind.specs.Kinds.{labelled_by}
use Rattle.kind.proofs.old_high.Goals as goal

pub returns-then-version-lt5 : goal.returns-then-version-lt5
unfolding old_high_item station_item line_item labelled_by pick
returns-then-version-lt5 c =
    λ s. simp (lt-ltb _ _ c.if-code-lt52.true, lt-ltb _ _ c.if-version-lt5.true)

pub returns-then-code-lt52 : goal.returns-then-code-lt52
unfolding old_high_item station_item line_item labelled_by pick
returns-then-code-lt52 c =
    λ s. c.section.ensures.0 old_part s ∙ simp (lt-ltb _ _ c.if-code-lt52.true, le-ltb _ _ c.if-version-lt5.false)

pub returns-then-code-lt64 : goal.returns-then-code-lt64
unfolding old_high_item station_item line_item labelled_by pick
returns-then-code-lt64 c =
    λ s. simp (le-ltb _ _ c.if-code-lt52.false, lt-ltb _ _ c.if-code-lt64.true)

pub returns-then-code-lt96 : goal.returns-then-code-lt96
unfolding old_high_item station_item line_item labelled_by pick
returns-then-code-lt96 c =
    λ s. simp (le-ltb _ _ c.if-code-lt52.false, le-ltb _ _ c.if-code-lt64.false, lt-ltb _ _ c.if-code-lt96.true)

pub returns-then-code-lt128 : goal.returns-then-code-lt128
unfolding old_high_item station_item line_item labelled_by pick
returns-then-code-lt128 c =
    λ s. simp (le-ltb _ _ c.if-code-lt52.false, le-ltb _ _ c.if-code-lt64.false, le-ltb _ _ c.if-code-lt96.false, lt-ltb _ _ c.if-code-lt128.true)

pub returns-then-code-lt136 : goal.returns-then-code-lt136
unfolding old_high_item station_item line_item labelled_by pick
returns-then-code-lt136 c =
    λ s. simp (le-ltb _ _ c.if-code-lt52.false, le-ltb _ _ c.if-code-lt64.false, le-ltb _ _ c.if-code-lt96.false, le-ltb _ _ c.if-code-lt128.false, lt-ltb _ _ c.if-code-lt136.true)

pub returns : goal.returns
unfolding old_high_item station_item line_item labelled_by pick
returns c =
    λ s. simp (le-ltb _ _ c.if-code-lt52.false, le-ltb _ _ c.if-code-lt64.false, le-ltb _ _ c.if-code-lt96.false, le-ltb _ _ c.if-code-lt128.false, le-ltb _ _ c.if-code-lt136.false)
