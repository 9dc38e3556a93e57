-- `listing::leg_line` meets its contract: its parts are those of the line. Assumes nothing.
use Rattle.listing.proofs.Parts.{leg_parts}
use native.Mathlib.Omega.{arith}
use Rattle.listing.proofs.Stores.{put_then, put_as}
use Rattle.listing.proofs.leg_line.Goals as goal

pub returns : goal.returns
returns c =
    let front = put_then (put_then c.leg_front-k.ensures c.point-k.ensures)
    c.point-k-2.ensures in
    put_as (put_then front c.last_name.ensures) (omega arith) (leg_parts _ _)
