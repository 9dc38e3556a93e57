-- `length::length_at` meets its contract. Assumes nothing.
use native.Mathlib.Omega.{arith}
use borrow.Author.Tests.{lt-ltb, le-ltb, eq-eqb, ne_eqb}
use borrow.Author.Rules.{part_to_end}
use mathlib.Core.Path.{◌∙◌}
use Rattle.format.specs.Bytes.{pick}
use Rattle.format.specs.Items.{length_size, length_value}
use Rattle.length.proofs.length_at.Goals as goal

ruleset cases = (lt-ltb, le-ltb, eq-eqb, ne_eqb)

pub returns-then-t-lt1 : goal.returns-then-t-lt1
unfolding length_size pick
returns-then-t-lt1 c = search cases

pub returns-then-b-lt255 : goal.returns-then-b-lt255
unfolding length_size length_value pick
returns-then-b-lt255 c =
    let e = c.index-b.ensures.0 in
    (search (cases, ← e), e ∙ search (cases, ← e), omega arith, omega arith, omega arith, omega (arith, c.index-b.ensures.1))

pub returns-then-t-lt5 : goal.returns-then-t-lt5
unfolding length_size pick
returns-then-t-lt5 c =
    let e = c.index-b.ensures.0 in
    simp (← e, le-ltb _ _ c.if-t-lt1.false, le-ltb _ _ c.if-b-lt255.false, lt-ltb _ _ c.if-t-lt5.true)

pub returns : goal.returns
unfolding length_size length_value pick
returns c =
    let e = c.index-b.ensures.0 in
    let g = simp part_to_end at c.get_le32.ensures.0 in (
      simp (← e, le-ltb _ _ c.if-t-lt1.false, le-ltb _ _ c.if-b-lt255.false, le-ltb _ _ c.if-t-lt5.false),
      c.long-value.ensures.0 ∙ g ∙ simp (← e, le-ltb _ _ c.if-b-lt255.false),
      omega arith,
      omega arith,
      omega arith,
      c.long-value.ensures.1,
    )
