-- `listing::list_too_long` meets its contract: put where it fits. Assumes nothing.
use mathlib.Core.Path.{refl}
use native.Mathlib.Omega.{arith}
use Rattle.listing.specs.Lines.{too_long_line}
use Rattle.listing.proofs.Stores.{wrote_none, wrote_all}
use Rattle.listing.proofs.list_too_long.Goals as goal

pub returns-then-out-lt9 : goal.returns-then-out-lt9
unfolding too_long_line
returns-then-out-lt9 c =
    (wrote_none _ _ _ refl c.if-out-lt9.true, omega arith)

pub returns : goal.returns
unfolding too_long_line
returns c = (
  wrote_all _ _ refl c.if-out-lt9.false c.word.ensures,
  omega (arith, c.word.ensures.few),
)
