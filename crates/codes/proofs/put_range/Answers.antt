-- `codes::put_range` meets its contract. Assumes nothing.
use native.Mathlib.Omega.{arith}
use mathlib.Core.Path.{sym, ap, ◌∙◌}
use borrow.Author.Tests.{le-leb, lt-leb}
use Rattle.format.specs.Bytes.{to_le16}
use Rattle.format.proofs.Basics.{pick_true, pick_false}
use Rattle.part.proofs.Laying.{lays_as, lays_within}
use Rattle.codes.proofs.put_range.Goals as goal

pub returns-then-span-le255 : goal.returns-then-span-le255
unfolding to_le16
returns-then-span-le255 c =
    let e = c.le16_bytes-d.ensures
    ∙ ap to_le16 c.from.ensures in
    lays_within (lays_as (simp e at c.put.ensures)
    (sym (pick_true _ _ (le-leb _ _ c.if-span-le255.true)))) 5 (omega arith)

pub returns : goal.returns
unfolding to_le16
returns c =
    let e = c.le16_bytes-d.ensures
    ∙ ap to_le16 c.from.ensures in
    let f = c.le16_bytes-e.ensures
    ∙ ap to_le16 c.from-2.ensures in
    lays_as (simp (e, f) at c.put-2.ensures)
    (sym (pick_false _ _ (lt-leb _ _ c.if-span-le255.false)))
