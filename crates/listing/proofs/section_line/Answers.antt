-- `listing::section_line` meets its contract: its parts are those of the line. Assumes nothing.
use Rattle.listing.specs.Lines.{section_word}
use Rattle.listing.proofs.Parts.{section_parts}
use native.Mathlib.Omega.{arith}
use Rattle.listing.proofs.Stores.{put_then, put_as}
use Rattle.listing.proofs.section_line.Goals as goal

pub returns : goal.returns
unfolding section_word
returns c =
    let front = put_then (put_then (put_then c.word-k.ensures
    c.number-k.ensures)
    c.date-k.ensures)
    c.dimensions-k.ensures in
    put_as (put_then front c.last_name.ensures) (omega arith)
    (section_parts _ _ c.index.ensures.0)
