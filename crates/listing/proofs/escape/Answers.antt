-- `listing::escape` meets its contract: the bytes passed so far are put, each at most three bytes long. Assumes nothing.
use mathlib.Core.Path.{◌≡◌}
use lib.ListN.{length}
use lib.Seq.{take-length}
use native.Mathlib.Omega.{arith}
use Rattle.listing.specs.Text.{escaped}
use Rattle.listing.proofs.Stores.{put_none, put_length, put_as}
use Rattle.listing.proofs.Escapes.{escape_next}
use Rattle.listing.proofs.escape.Goals as goal

pub loop-b-init : goal.loop-b-init
unfolding escaped
loop-b-init c = put_none _ _

pub loop-b-preserved : goal.loop-b-preserved
loop-b-preserved c =
    escape_next c.args.s.now (omega arith) c.loop-b.invariant
    c.text_byte-k.ensures

pub shape_of-out : goal.shape_of-out
shape_of-out c = put_length c.loop-b.invariant

pub returns : goal.returns
returns c =
    let e : c.loop-b.b-index ≡ length c.args.s.now = omega arith in
    put_as c.loop-b.invariant (omega arith) (rw (e, take-length))

pub text_byte-k-requires : goal.text_byte-k-requires
text_byte-k-requires c =
    omega (arith, c.loop-b.invariant.few, c.requires)
