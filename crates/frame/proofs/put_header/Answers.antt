-- `frame::put_header` meets its contract: each line is laid behind the one before it. Assumes nothing.
use native.Mathlib.Omega.{arith}
use Rattle.format.specs.Header.{magic}
use Rattle.format.specs.Codes.{header_codes}
use Rattle.part.proofs.Laying.{lays_within, lays_then, puts_front}
use Rattle.frame.proofs.put_header.Goals as goal

pub put-b-requires : goal.put-b-requires
put-b-requires c =
    (omega (arith, c.put-a.ensures.most), c.requires.1)

pub put-c-requires : goal.put-c-requires
put-c-requires c = (
  omega (
    arith,
    c.put-a.ensures.most,
    c.put-b.ensures.most,
    c.requires,
  ),
  omega arith,
)

pub put-d-requires : goal.put-d-requires
put-d-requires c = (
  omega (
    arith,
    c.put-a.ensures.most,
    c.put-b.ensures.most,
    c.put-c.ensures.most,
    c.requires,
  ),
  omega (
    arith,
    c.requires,
  ),
)

pub put-requires : goal.put-requires
put-requires c = (
  omega (
    arith,
    c.put-a.ensures.most,
    c.put-b.ensures.most,
    c.put-c.ensures.most,
    c.put-d.ensures.most,
    c.requires,
  ),
  omega arith,
)

pub returns : goal.returns
unfolding header_codes magic
returns c =
    puts_front
    (lays_within (lays_then c.put-a.ensures
    (lays_then c.put-b.ensures (lays_then c.put-c.ensures
    (lays_then c.put-d.ensures c.put.ensures))))
    4187 (omega (
      arith,
      c.requires,
    )))
