-- `listing::text_byte` meets its contract: a plain byte is itself, another three bytes. Assumes nothing.
use native.Mathlib.Omega.{arith}
use mathlib.Core.Path.{◌∙◌, sym}
use Rattle.listing.proofs.Stores.{put_then, put_as}
use Rattle.listing.proofs.Escapes.{byte_plain, byte_hex}
use Rattle.listing.proofs.text_byte.Goals as goal

pub returns-then-is_plain : goal.returns-then-is_plain
returns-then-is_plain c =
    put_as c.put.ensures (omega arith)
    (byte_plain _ (sym c.is_plain.ensures ∙ c.if-is_plain.true))

pub returns : goal.returns
returns c =
    put_as (put_then (put_then c.put-k.ensures
    c.put-k-2.ensures) c.put-2.ensures) (omega arith)
    (simp (c.hex.ensures, c.hex-2.ensures)
    (byte_hex _ (sym c.is_plain.ensures ∙ c.if-is_plain.false)))
