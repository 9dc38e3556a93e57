-- `length::new_part` meets its contract. Assumes nothing.
use native.Mathlib.Omega.{arith}
use borrow.Author.Tests.{lt-ltb, le-ltb, eq-eqb, ne_eqb}
use Rattle.format.specs.Bytes.{pick}
use mathlib.Core.Path.{◌∙◌}
use Rattle.format.specs.Items.{new_part}
use Rattle.length.proofs.new_part.Goals as goal

ruleset cases = (lt-ltb, le-ltb, eq-eqb, ne_eqb)

pub returns-then-t-lt1 : goal.returns-then-t-lt1
unfolding new_part pick
returns-then-t-lt1 c = (search cases, tt)

pub returns-then-b-eq0 : goal.returns-then-b-eq0
unfolding new_part pick
returns-then-b-eq0 c =
    let e = c.index-b.ensures.0 in
    let q = c.long_part.ensures in
    (q.0 ∙ search (cases, ← e), q.1)

pub returns : goal.returns
unfolding new_part pick
returns c =
    let e = c.index-b.ensures.0 in
    (search (cases, ← e), (omega arith, omega arith))
