-- `v7::put_error` meets its contract. Assumes nothing.
use Rattle.format.specs.Bytes.{to_le32}
use Rattle.part.proofs.Laying.{lays_then, lays_within}
use Rattle.format.specs.V7Codes.{v7_codes_limit}
use native.Mathlib.Omega.{arith}
use Rattle.v7.proofs.put_error.Goals as goal

pub returns : goal.returns
unfolding to_le32
returns c =
    lays_within (lays_then c.put-a.ensures (rw c.traverse_bytes-bytes.ensures at
    c.put.ensures)) v7_codes_limit (omega arith)
