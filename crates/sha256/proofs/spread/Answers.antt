-- `sha256::spread` meets its contract. Assumes nothing.
use Rattle.std.proofs.Common.{◌≡◌, refl, arith, length-set, rules}
use Rattle.sha256.specs.Digest.{schedule}
use Rattle.sha256.proofs.Rounds.{early_word}
use Rattle.sha256.proofs.spread.Goals as goal

pub loop-t-init : goal.loop-t-init
unfolding schedule
loop-t-init c = (refl, refl)

pub loop-t-preserved : goal.loop-t-preserved
loop-t-preserved c =
    let L = c.loop-t.invariant in
    (simp length-set L.0, early_word _ _ _ _ (search rules) L.0 L.1 c.get_be32.ensures)

pub returns : goal.returns
returns c =
    let e : c.loop-t.t ≡ 16 = omega arith in
    (c.loop-t.invariant.0, rw e at c.loop-t.invariant.1)
