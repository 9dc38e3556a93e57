-- `codes::put_date_if` meets its contract. Assumes nothing.
use Rattle.format.specs.Codes.{date_if}
use mathlib.Core.Path.{sym, ◌∙◌}
use Rattle.format.proofs.Basics.{pick_true, pick_false}
use Rattle.part.proofs.Laying.{lays_as, lays_none}
use Rattle.codes.proofs.put_date_if.Goals as goal

pub returns-then-same_date : goal.returns-then-same_date
unfolding date_if
returns-then-same_date c =
    lays_as (lays_none 5) (sym (pick_true _ _ (sym c.same_date.ensures ∙ c.if-same_date.true)))

pub returns : goal.returns
unfolding date_if
returns c =
    lays_as c.put_date.ensures
    (sym (pick_false _ _ (sym c.same_date.ensures ∙ c.if-same_date.false)))
