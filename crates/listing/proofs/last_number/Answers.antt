-- `listing::last_number` meets its contract: the linefeed behind the digits. Assumes nothing.
use native.Mathlib.Omega.{arith}
use Rattle.listing.proofs.Stores.{put_then, put_as}
use mathlib.Core.Path.{refl}
use Rattle.listing.proofs.last_number.Goals as goal

pub returns : goal.returns
returns c =
    put_as (put_then c.number-k.ensures c.put.ensures) (omega arith) refl
