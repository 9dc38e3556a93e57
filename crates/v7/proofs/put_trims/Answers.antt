-- `v7::put_trims` meets its contract. Assumes nothing.
use Rattle.part.proofs.Laying.{lays_as, lays_none, lays_within, lays_then}
use Rattle.v7.proofs.Labels.{trims_none, trims_rest}
use native.Mathlib.Omega.{arith}
use Rattle.v7.proofs.put_trims.Goals as goal

pub returns-then-rest-eq0 : goal.returns-then-rest-eq0
returns-then-rest-eq0 c =
    lays_within (lays_as (lays_then c.put_sixteens-next.ensures (lays_none 0)) (trims_none
    c.args.d c.if-rest-eq0.true)) 257 (omega arith)

pub returns : goal.returns
returns c =
    lays_as (lays_then c.put_sixteens-next.ensures c.put.ensures) (trims_rest c.args.d
    c.if-rest-eq0.false)
