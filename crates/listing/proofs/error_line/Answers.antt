-- `listing::error_line` meets its contract: its parts are those of the line. Assumes nothing.
use Rattle.listing.specs.Lines.{error_word}
use Rattle.listing.proofs.Parts.{error_parts}
use native.Mathlib.Omega.{arith}
use Rattle.listing.proofs.Stores.{put_then, put_as}
use Rattle.listing.proofs.error_line.Goals as goal

pub returns : goal.returns
unfolding error_word
returns c =
    put_as (put_then (put_then c.word-k.ensures
    c.traverse-k.ensures) c.put.ensures) (omega arith) (error_parts _)
