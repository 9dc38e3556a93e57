-- `length::part_of` meets its contract. Assumes nothing.
use native.Mathlib.Omega.{arith}
use borrow.Author.Tests.{lt-ltb, le-ltb, eq-eqb, ne_eqb}
use Rattle.format.specs.Bytes.{pick}
use mathlib.Core.Path.{◌∙◌}
use Rattle.length.specs.Parts.{part_at}
use Rattle.length.proofs.part_of.Goals as goal

ruleset cases = (lt-ltb, le-ltb, eq-eqb, ne_eqb)

pub returns-then-bare : goal.returns-then-bare
unfolding part_at pick
returns-then-bare c =
    (search (cases, c.if-bare.true), (omega arith, omega arith))

pub returns-then-version-lt8 : goal.returns-then-version-lt8
unfolding part_at pick
returns-then-version-lt8 c =
    let q = c.old_part.ensures in
    (q.0 ∙ search (cases, c.if-bare.false), q.1)

pub returns : goal.returns
unfolding part_at pick
returns c =
    let q = c.new_part.ensures in
    (q.0 ∙ search (cases, c.if-bare.false), q.1)
