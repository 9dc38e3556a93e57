-- `v7::put_labelled` meets its contract. Assumes nothing.
use Rattle.part.proofs.Laying.{lays_within, lays_then}
use Rattle.format.proofs.WritingLaws.{common_le}
use Rattle.format.specs.V7Codes.{labelled_codes}
use native.Mathlib.Omega.{arith}
use Rattle.v7.proofs.put_labelled.Goals as goal

pub put_shorten-a-requires : goal.put_shorten-a-requires
put_shorten-a-requires c =
    let h = common_le c.args.last.now
    c.args.name.now in
    let e = c.common_start-kept.ensures in (
      omega (arith, c.requires),
      omega
          (arith, c.requires),
      omega (arith, h, e),
    )

pub put_added-c-requires : goal.put_added-c-requires
put_added-c-requires c =
    let h = common_le c.args.last.now
    c.args.name.now in
    let e = c.common_start-kept.ensures in (
      omega (
        arith,
        c.put_shorten-a.ensures.most,
        c.put-b.ensures.most,
        c.requires,
      ),
      omega
          (arith, c.requires),
      omega (arith, h, e),
    )

pub returns : goal.returns
unfolding labelled_codes
returns c =
    let e = c.common_start-kept.ensures in
    lays_within
    (lays_then (rw e at c.put_shorten-a.ensures)
    (lays_then c.put-b.ensures (lays_then (rw e at c.put_added-c.ensures)
    c.put.ensures)))
    _ (omega (arith, c.requires))
