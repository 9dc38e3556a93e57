-- `kind::new_high` meets its contract. Assumes nothing.
use borrow.Author.Tests.{lt-ltb, le-ltb}
use Rattle.format.specs.Bytes.{pick}
use mathlib.Core.Path.{◌∙◌}
use Rattle.format.specs.Items.{new_high_item, station_item, line_item, new_part}
use Rattle.kind.specs.Kinds.{labelled_by}
use Rattle.kind.proofs.new_high.Goals as goal

pub returns-then-code-lt52 : goal.returns-then-code-lt52
unfolding new_high_item station_item line_item labelled_by pick
returns-then-code-lt52 c = (λ s. c.section.ensures.0 new_part s ∙ simp (lt-ltb _ _ c.if-code-lt52.true), c.section.ensures.1)

pub returns-then-code-lt64 : goal.returns-then-code-lt64
unfolding new_high_item station_item line_item labelled_by pick
returns-then-code-lt64 c = (λ s. simp (le-ltb _ _ c.if-code-lt52.false, lt-ltb _ _ c.if-code-lt64.true), tt)

pub returns-then-code-lt72 : goal.returns-then-code-lt72
unfolding new_high_item station_item line_item labelled_by pick
returns-then-code-lt72 c = (λ s. simp (le-ltb _ _ c.if-code-lt52.false, le-ltb _ _ c.if-code-lt64.false, lt-ltb _ _ c.if-code-lt72.true), tt)

pub returns-then-code-lt96 : goal.returns-then-code-lt96
unfolding new_high_item station_item line_item labelled_by pick
returns-then-code-lt96 c = (λ s. simp (le-ltb _ _ c.if-code-lt52.false, le-ltb _ _ c.if-code-lt64.false, le-ltb _ _ c.if-code-lt72.false, lt-ltb _ _ c.if-code-lt96.true), tt)

pub returns-then-code-lt104 : goal.returns-then-code-lt104
unfolding new_high_item station_item line_item labelled_by pick
returns-then-code-lt104 c = (λ s. simp (le-ltb _ _ c.if-code-lt52.false, le-ltb _ _ c.if-code-lt64.false, le-ltb _ _ c.if-code-lt72.false, le-ltb _ _ c.if-code-lt96.false, lt-ltb _ _ c.if-code-lt104.true), tt)

pub returns-then-code-lt128 : goal.returns-then-code-lt128
unfolding new_high_item station_item line_item labelled_by pick
returns-then-code-lt128 c = (λ s. simp (le-ltb _ _ c.if-code-lt52.false, le-ltb _ _ c.if-code-lt64.false, le-ltb _ _ c.if-code-lt72.false, le-ltb _ _ c.if-code-lt96.false, le-ltb _ _ c.if-code-lt104.false, lt-ltb _ _ c.if-code-lt128.true), tt)

pub returns : goal.returns
unfolding new_high_item station_item line_item labelled_by pick
returns c = (λ s. simp (le-ltb _ _ c.if-code-lt52.false, le-ltb _ _ c.if-code-lt64.false, le-ltb _ _ c.if-code-lt72.false, le-ltb _ _ c.if-code-lt96.false, le-ltb _ _ c.if-code-lt104.false, le-ltb _ _ c.if-code-lt128.false), tt)
