-- `listing::station_line` meets its contract: its parts are those of the line. Assumes nothing.
use Rattle.listing.specs.Lines.{station_word}
use Rattle.listing.proofs.Parts.{station_parts}
use native.Mathlib.Omega.{arith}
use Rattle.listing.proofs.Stores.{put_then, put_as}
use Rattle.listing.proofs.station_line.Goals as goal

pub returns : goal.returns
unfolding station_word
returns c =
    let front = put_then (put_then c.word-k.ensures c.number-k.ensures)
    c.point-k.ensures in
    put_as (put_then front c.last_name.ensures) (omega arith)
    (station_parts _ _ c.index.ensures.0)
