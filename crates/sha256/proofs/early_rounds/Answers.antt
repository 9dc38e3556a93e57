-- `sha256::early_rounds` meets its contract. Assumes nothing.
use Rattle.std.proofs.Common.{◌*◌, ◌≡◌, ◌+◌, refl, arith}
use Rattle.sha256.proofs.Rounds.{no_rounds, one_round}
use Rattle.sha256.proofs.early_rounds.Goals as goal

pub loop-turn-init : goal.loop-turn-init
loop-turn-init c = no_rounds c.args.k.now c.args.w.now _

pub loop-turn-preserved : goal.loop-turn-preserved
loop-turn-preserved c =
    let L = c.loop-turn in
    let k = c.args.k.now in
    let w = c.args.w.now in
    let t = 4 * L.turn in
    let p = c.told-k in
    let q = c.told-w in
    let e1 = one_round k w t (t + 1) _ _ _ refl (omega arith) (omega arith) L.invariant c.early_round-s1.ensures in
    let e2 = one_round k w (t + 1) (t + 2) _ _ _ (omega arith) (omega arith) (omega arith) e1 c.early_round-s2.ensures in
    let e3 = one_round k w (t + 2) (t + 3) _ _ _ (omega arith) (omega arith) (omega arith) e2 c.early_round-s3.ensures in
    one_round k w (t + 3) (4 * (L.turn + 1)) _ _ _ (omega arith) (omega arith) (omega arith) e3 c.early_round-s.ensures

pub returns : goal.returns
returns c =
    let e : 4 * c.loop-turn.turn ≡ 16 = omega arith in
    rw e at c.loop-turn.invariant
