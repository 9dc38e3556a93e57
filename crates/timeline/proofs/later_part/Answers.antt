-- `later_part` meets its contract, answer by answer. Assumes nothing.
use mathlib.Core.Path.{◌∙◌}
use Rattle.std.specs.Prelude.{Ok}
use Rattle.format.specs.declared.Later.TheVariants.{First, Second, Same}
use Rattle.timeline.proofs.Stamps.{part_is, no_part_is}
use Rattle.timeline.proofs.later_part.Goals as goal

pub returns-in-Ok-First : goal.returns-in-Ok-First
returns-in-Ok-First c =
    c.part_of.ensures ∙ part_is _ _ _ _ c.stamp-one.ensures.0 c.stamp-other.ensures.0 (Ok First) (rw c.in-Ok-First.field-0-is at c.in-Ok-First.ensures)

pub returns-in-Ok-Second : goal.returns-in-Ok-Second
returns-in-Ok-Second c =
    c.part_of-in-Ok-Second.ensures ∙ part_is _ _ _ _ c.stamp-one.ensures.0 c.stamp-other.ensures.0 (Ok Second) (rw c.in-Ok-Second.field-0-is at c.in-Ok-Second.ensures)

pub returns-in-Ok-Same : goal.returns-in-Ok-Same
returns-in-Ok-Same c =
    part_is _ _ _ _ c.stamp-one.ensures.0 c.stamp-other.ensures.0 (Ok Same) (rw c.in-Ok-Same.field-0-is at c.in-Ok-Same.ensures)

pub returns-in-Err : goal.returns-in-Err
returns-in-Err c =
    no_part_is _ _ _ _ c.stamp-one.ensures.0 c.stamp-other.ensures.0 _ c.in-Err.ensures
