-- `listing::name` meets its contract: a space and the text. Assumes nothing.
use native.Mathlib.Omega.{arith}
use mathlib.Core.Path.{refl}
use Rattle.listing.proofs.Stores.{put_then, put_as}
use Rattle.listing.proofs.name.Goals as goal

pub returns : goal.returns
returns c =
    put_as (put_then c.put-k.ensures c.text.ensures) (omega arith) refl
