-- `listing::header_front` meets its contract: its parts are those of the line. Assumes nothing.
use Rattle.listing.specs.Lines.{version_word, title_word}
use Rattle.listing.proofs.Parts.{header_front_parts}
use native.Mathlib.Omega.{arith}
use Rattle.listing.proofs.Stores.{put_then, put_as}
use Rattle.listing.proofs.header_front.Goals as goal

pub returns : goal.returns
unfolding version_word title_word
returns c =
    let front = put_then (put_then c.word-k.ensures c.number-k.ensures) c.word-k-2.ensures in
    put_as (put_then front c.name.ensures) (omega arith) (header_front_parts _ c.index.ensures.0)
