-- `listing::word` meets its contract: the bytes passed so far are put. Assumes nothing.
use mathlib.Core.Path.{◌≡◌}
use lib.ListN.{length}
use lib.Seq.{take-length}
use native.Mathlib.Omega.{arith}
use Rattle.listing.proofs.Stores.{put_none, put_next, put_length, put_as}
use Rattle.listing.proofs.word.Goals as goal

pub loop-b-init : goal.loop-b-init
loop-b-init c = put_none _ _

pub loop-b-preserved : goal.loop-b-preserved
loop-b-preserved c =
    put_next c.args.s.now (omega arith) c.loop-b.invariant
    c.put-k.ensures

pub shape_of-out : goal.shape_of-out
shape_of-out c = put_length c.loop-b.invariant

pub returns : goal.returns
returns c =
    let e : c.loop-b.b-index ≡ length c.args.s.now = omega arith in
    put_as c.loop-b.invariant (omega (arith, c.requires.1)) (rw (e, take-length))

pub put-k-requires : goal.put-k-requires
put-k-requires c =
    omega (arith, c.loop-b.invariant.few)
