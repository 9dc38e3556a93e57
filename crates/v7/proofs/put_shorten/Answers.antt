-- `v7::put_shorten` meets its contract. Assumes nothing.
use Rattle.part.proofs.Laying.{lays_as, lays_none, lays_within}
use Rattle.v7.proofs.Labels.{shorten_some, shorten_none, shorten_all}
use native.Mathlib.Omega.{arith}
use Rattle.v7.proofs.put_shorten.Goals as goal

pub returns-then-k-ne0 : goal.returns-then-k-ne0
returns-then-k-ne0 c =
    lays_as c.put_trims.ensures (shorten_some c.args.n
    c.args.k c.if-k-ne0.true)

pub returns-then-n-eq0 : goal.returns-then-n-eq0
returns-then-n-eq0 c =
    lays_as (lays_none 257) (shorten_none c.args.n c.args.k c.if-k-ne0.false c.if-n-eq0.true)

pub returns : goal.returns
returns c =
    lays_within (lays_as c.put.ensures (shorten_all c.args.n c.args.k
    c.if-k-ne0.false c.if-n-eq0.false)) 257 (omega arith)
