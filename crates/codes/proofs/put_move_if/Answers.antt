-- `codes::put_move_if` meets its contract. Assumes nothing.
use Rattle.format.specs.Codes.{move_if}
use mathlib.Core.Path.{sym, ◌∙◌}
use Rattle.format.specs.Bytes.{to_le32}
use Rattle.format.proofs.Basics.{pick_true, pick_false}
use Rattle.part.proofs.Laying.{lays_as, lays_none, lays_then}
use Rattle.codes.proofs.put_move_if.Goals as goal

pub returns-then-stands_at : goal.returns-then-stands_at
unfolding move_if
returns-then-stands_at c =
    lays_as (lays_none 13) (sym (pick_true _ _ (sym c.stands_at.ensures ∙ c.if-stands_at.true)))

pub returns : goal.returns
unfolding move_if to_le32
returns c =
    lays_as (lays_then c.put-next.ensures
    (rw c.point_bytes-place.ensures at c.put.ensures))
    (sym (pick_false _ _ (sym c.stands_at.ensures
    ∙ c.if-stands_at.false)))
