-- `listing::is_plain` meets its contract: by the three tests of `plain`. Assumes nothing.
use borrow.Author.Tests.{lt-leb, le-leb}
use Rattle.listing.specs.Text.{plain}
use Rattle.listing.proofs.is_plain.Goals as goal

pub returns-then-b-lt33 : goal.returns-then-b-lt33
unfolding plain
returns-then-b-lt33 c =
    simp (lt-leb _ _ c.if-b-lt33.true)

pub returns-then-b-gt126 : goal.returns-then-b-gt126
unfolding plain
returns-then-b-gt126 c =
    simp (le-leb _ _ c.if-b-lt33.false, lt-leb _ _ c.if-b-gt126.true)

pub returns : goal.returns
unfolding plain
returns c =
    simp (le-leb _ _ c.if-b-lt33.false, le-leb _ _ c.if-b-gt126.false)
