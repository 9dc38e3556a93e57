-- `listing::leg_front` meets its contract: its parts are those of the line. Assumes nothing.
use Rattle.listing.specs.Lines.{leg_word}
use Rattle.listing.proofs.Parts.{leg_front_parts}
use native.Mathlib.Omega.{arith}
use Rattle.listing.proofs.Stores.{put_then, put_as}
use Rattle.listing.proofs.leg_front.Goals as goal

pub returns : goal.returns
unfolding leg_word
returns c =
    let front = put_then (put_then c.word-k.ensures c.number-k.ensures)
    c.number-k-2.ensures in
    put_as (put_then front c.date.ensures) (omega arith)
    (leg_front_parts c.args.day
    c.index.ensures.0
    c.index-2.ensures.0)
