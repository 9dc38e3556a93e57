-- `listing::number` meets its contract: a space and the digits. Assumes nothing.
use Rattle.listing.proofs.Stores.{put_then}
use Rattle.listing.proofs.number.Goals as goal

pub returns : goal.returns
returns c =
    put_then c.put-k.ensures c.decimal.ensures
