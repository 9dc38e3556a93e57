-- `listing::list_lines` meets its contract: measured with no room, and put where it fits. Assumes nothing.
use mathlib.Core.Path.{refl}
use Rattle.listing.proofs.Stores.{line_unfit, line_fits}
use Rattle.listing.proofs.list_lines.Goals as goal

pub returns-then-out-size : goal.returns-then-out-size
returns-then-out-size c =
    line_unfit _ _ _ _ refl c.sheet_lines-size.ensures c.if-out-size.true

pub returns : goal.returns
returns c =
    line_fits _ _ _ _ refl c.sheet_lines-size.ensures
    c.if-out-size.false c.sheet_lines.ensures
