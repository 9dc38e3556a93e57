-- `codes::put_date` meets its contract. Assumes nothing.
use native.Mathlib.Omega.{arith}
use mathlib.Core.Path.{ap, ◌∙◌}
use Rattle.format.specs.Bytes.{to_le16}
use Rattle.part.proofs.Laying.{lays_within}
use Rattle.codes.proofs.put_date.Goals as goal

pub put_range-requires : goal.put_range-requires
put_range-requires c =
    let g = rw c.in-Range.is at c.requires.1 in
    (c.requires.0, omega (arith, g))

pub returns-in-Undated : goal.returns-in-Undated
returns-in-Undated c =
    rw c.in-Undated.is (lays_within c.put.ensures 5 (omega arith))

pub returns-in-Day : goal.returns-in-Day
unfolding to_le16
returns-in-Day c =
    let e = c.le16_bytes-d.ensures ∙ ap to_le16 c.from.ensures in
    rw c.in-Day.is
    (lays_within (simp e at c.put-in-Day.ensures) 5 (omega arith))

pub returns-in-Range : goal.returns-in-Range
returns-in-Range c =
    rw c.in-Range.is c.put_range.ensures
