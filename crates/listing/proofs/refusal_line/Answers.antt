-- `listing::refusal_line` meets its contract: its parts are those of the line. Assumes nothing.
use Rattle.listing.specs.Lines.{refused_word, at_word}
use Rattle.listing.proofs.Parts.{refusal_parts}
use native.Mathlib.Omega.{arith}
use Rattle.listing.proofs.Stores.{put_then, put_as}
use Rattle.listing.proofs.refusal_line.Goals as goal

pub returns : goal.returns
unfolding refused_word at_word
returns c =
    let front = put_then (put_then c.word-k.ensures c.number-k.ensures)
    c.word-k-2.ensures in
    put_as (put_then front c.last_number.ensures) (omega arith)
    (refusal_parts _ c.index.ensures.0)
