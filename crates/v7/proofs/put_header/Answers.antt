-- `v7::put_header` meets its contract. Assumes nothing.
use Rattle.format.specs.Header.{magic}
use Rattle.format.specs.V7Codes.{v7_header_codes}
use Rattle.part.proofs.Laying.{lays_then, lays_within, puts_front}
use native.Mathlib.Omega.{arith}
use Rattle.v7.proofs.put_header.Goals as goal

pub put-b-requires : goal.put-b-requires
put-b-requires c =
    (omega (arith, c.put-a.ensures.most), c.requires.0)

pub put-c-requires : goal.put-c-requires
put-c-requires c = (
  omega (
    arith,
    c.put-a.ensures.most,
    c.put-b.ensures.most,
    c.requires,
  ),
  omega arith,
)

pub put-d-requires : goal.put-d-requires
put-d-requires c = (
  omega (
    arith,
    c.put-a.ensures.most,
    c.put-b.ensures.most,
    c.put-c.ensures.most,
    c.requires,
  ),
  omega (arith, c.requires),
)

pub put-requires : goal.put-requires
put-requires c = (
  omega (
    arith,
    c.put-a.ensures.most,
    c.put-b.ensures.most,
    c.put-c.ensures.most,
    c.put-d.ensures.most,
    c.requires,
  ),
  omega arith,
)

pub returns : goal.returns
unfolding v7_header_codes magic
returns c =
    puts_front (lays_within (lays_then c.put-a.ensures (lays_then c.put-b.ensures (lays_then
    c.put-c.ensures (lays_then c.put-d.ensures
    c.put.ensures)))) 4186 (omega (arith, c.requires)))
