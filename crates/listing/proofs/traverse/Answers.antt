-- `listing::traverse` meets its contract: five numbers in a row. Assumes nothing.
use native.Mathlib.Omega.{arith}
use mathlib.Core.List.{append_assoc, append-nil}
use Rattle.listing.specs.Text.{spaced}
use Rattle.listing.proofs.Stores.{put_then, put_as}
use Rattle.listing.proofs.traverse.Goals as goal

pub returns : goal.returns
unfolding spaced
returns c =
    let front = put_then c.signed_number-k.ensures c.signed_number-k-2.ensures in
    put_as (put_then (put_then (put_then front c.signed_number-k-3.ensures)
    c.signed_number-k-4.ensures) c.signed_number.ensures) (omega arith)
    (simp (append_assoc, append-nil))
