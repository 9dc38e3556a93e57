-- `v7::put_length` meets its contract. Assumes nothing.
use native.Mathlib.Omega.{arith}
use Rattle.part.proofs.Laying.{lays_as, lays_within}
use Rattle.v7.proofs.Labels.{length_short, length_long}
use Rattle.format.specs.Bytes.{to_le16}
use Rattle.v7.proofs.put_length.Goals as goal

pub returns-then-n-lt254 : goal.returns-then-n-lt254
returns-then-n-lt254 c =
    lays_within (lays_as c.put.ensures (length_short c.args.n
    c.if-n-lt254.true)) 3 (omega arith)

pub returns : goal.returns
unfolding to_le16
returns c =
    let e = c.le16_bytes-b.ensures in
    lays_within (lays_as (simp e at c.put-2.ensures) (length_long c.args.n
    c.if-n-lt254.false (omega (arith, c.requires)))) 3 (omega arith)
