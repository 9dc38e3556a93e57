-- `part::put_length` meets its contract. Assumes nothing.
use native.Mathlib.Omega.{arith}
use Rattle.format.specs.Bytes.{to_le32}
use Rattle.part.proofs.Laying.{lays_as, lays_within}
use Rattle.part.proofs.Labels.{length_short, length_long}
use Rattle.part.proofs.put_length.Goals as goal

pub returns-then-n-lt255 : goal.returns-then-n-lt255
returns-then-n-lt255 c =
    lays_within (lays_as c.put.ensures
    (length_short c.args.n c.if-n-lt255.true)) 5
    (omega arith)

pub returns : goal.returns
unfolding to_le32
returns c =
    lays_as (simp c.le32_bytes-b.ensures at c.put-2.ensures)
    (length_long c.args.n
    c.if-n-lt255.false)
