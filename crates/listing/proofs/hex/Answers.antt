-- `listing::hex` meets its contract: by the two ways that a digit goes. Assumes nothing.
use borrow.Author.Tests.{lt-ltb, le-ltb}
use Rattle.format.specs.Bytes.{pick}
use Rattle.listing.specs.Text.{hex_digit}
use Rattle.listing.proofs.hex.Goals as goal

pub returns-then-n-lt10 : goal.returns-then-n-lt10
unfolding hex_digit pick
returns-then-n-lt10 c =
    simp (lt-ltb _ _ c.if-n-lt10.true)

pub returns : goal.returns
unfolding hex_digit pick
returns c =
    simp (le-ltb _ _ c.if-n-lt10.false)
