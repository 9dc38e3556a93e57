-- `listing::header_line` meets its contract: its parts are those of the line. Assumes nothing.
use Rattle.listing.specs.Lines.{time_word, extended_word}
use Rattle.listing.proofs.Parts.{header_parts}
use native.Mathlib.Omega.{arith}
use Rattle.listing.proofs.Stores.{put_then, put_as}
use Rattle.listing.proofs.header_line.Goals as goal

pub returns : goal.returns
unfolding time_word extended_word
returns c =
    let front = put_then (put_then c.header_front-k.ensures
    c.word-k.ensures)
    c.name-k.ensures in
    put_as (put_then (put_then front c.word-k-2.ensures) c.last_number.ensures)
    (omega arith)
    (header_parts _ _ _ c.index.ensures.0)
