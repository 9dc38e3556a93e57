-- `listing::end_line` meets its contract: its parts are those of the line. Assumes nothing.
use Rattle.listing.specs.Lines.{end_word}
use Rattle.listing.proofs.Parts.{end_parts}
use native.Mathlib.Omega.{arith}
use Rattle.listing.proofs.Stores.{put_then, put_as}
use Rattle.listing.proofs.end_line.Goals as goal

pub returns : goal.returns
unfolding end_word
returns c =
    put_as (put_then c.word-k.ensures c.last_number.ensures) (omega arith) (end_parts _)
