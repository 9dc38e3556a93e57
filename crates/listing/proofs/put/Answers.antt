-- `listing::put` meets its contract: what `set` does past the end is nothing. Assumes nothing.
use Rattle.listing.proofs.Stores.{put_past, put_here}
use Rattle.listing.proofs.put.Goals as goal

pub returns-then-out-at : goal.returns-then-out-at
returns-then-out-at c =
    put_past _ _ _ c.if-out-at.true

pub returns : goal.returns
returns c =
    put_here _ _ _
