-- `listing::last_name` meets its contract: the linefeed behind the text. Assumes nothing.
use native.Mathlib.Omega.{arith}
use Rattle.listing.proofs.Stores.{put_then, put_as}
use mathlib.Core.Path.{refl}
use Rattle.listing.proofs.last_name.Goals as goal

pub returns : goal.returns
returns c =
    put_as (put_then c.name-k.ensures c.put.ensures) (omega arith) refl
