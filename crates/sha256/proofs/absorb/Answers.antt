-- `sha256::absorb` meets its contract. Assumes nothing.
use Rattle.std.proofs.Common.{◌+◌, ◌≡◌, ◌*◌, arith}
use Rattle.sha256.proofs.StreamLaws.{absorb_first, absorb_turn, absorb_done, block_length}
use Rattle.sha256.proofs.absorb.Goals as goal

pub loop-n-init : goal.loop-n-init
loop-n-init c = absorb_first c.args.bytes.now _

pub compress-s-requires : goal.compress-s-requires
compress-s-requires c =
    (c.requires, block_length c.args.bytes.now (c.loop-n.n * 64) (omega arith))

pub loop-n-preserved : goal.loop-n-preserved
loop-n-preserved c =
    let L = c.loop-n in
    let e : (L.n + 1) * 64 ≡ L.n * 64 + 64 = omega arith in
    rw e (absorb_turn c.args.bytes.now (L.n * 64) L.s _ (omega arith) c.compress-s.ensures L.invariant)

pub returns : goal.returns
returns c =
    absorb_done c.args.bytes.now (c.loop-n.n * 64) _ (omega arith) c.loop-n.invariant
