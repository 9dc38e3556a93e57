-- `listing::text` meets its contract: empty text, the text `-`, and any other. Assumes nothing.
use native.Mathlib.Omega.{arith}
use mathlib.Core.Path.{◌∙◌, sym}
use Rattle.listing.proofs.Stores.{put_as}
use Rattle.listing.proofs.Escapes.{text_empty, text_dash, text_other}
use Rattle.listing.proofs.text.Goals as goal

pub returns-then-s-eq0 : goal.returns-then-s-eq0
returns-then-s-eq0 c =
    put_as c.put.ensures (omega arith) (text_empty _ c.if-s-eq0.true)

pub returns-then-same_bytes : goal.returns-then-same_bytes
returns-then-same_bytes c =
    put_as c.word.ensures (omega arith)
    (text_dash _ c.if-s-eq0.false
    (sym c.same_bytes.ensures ∙ c.if-same_bytes.true))

pub returns : goal.returns
returns c =
    put_as c.escape.ensures (omega arith)
    (text_other _ c.if-s-eq0.false
    (sym c.same_bytes.ensures ∙ c.if-same_bytes.false))
