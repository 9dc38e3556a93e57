-- `later_line` meets its contract: the part of the later file, or an empty one. Assumes nothing.
use mathlib.Core.Path.{◌∙◌}
use Rattle.timeline.proofs.Stamps.{first_part, second_part, same_part, refused_part}
use Rattle.timeline.proofs.later_line.Goals as goal

pub returns-in-Ok-First : goal.returns-in-Ok-First
returns-in-Ok-First c =
    let t = first_part _ _ c.stamp-one.result c.stamp-other.result c.stamp-one.ensures.0 c.stamp-other.ensures.0 _ _ (rw c.in-Ok-First.field-0-is at c.in-Ok-First.ensures) in
    record { contents = c.line_of.ensures.result_value ∙ t.contents; place = c.line_of.ensures.ref_ptr_value ∙ t.place }

pub returns-in-Ok-Second : goal.returns-in-Ok-Second
returns-in-Ok-Second c =
    let t = second_part _ _ c.stamp-one.result c.stamp-other.result c.stamp-one.ensures.0 c.stamp-other.ensures.0 _ _ (rw c.in-Ok-Second.field-0-is at c.in-Ok-Second.ensures) in
    record { contents = c.line_of-in-Ok-Second.ensures.result_value ∙ t.contents; place = c.line_of-in-Ok-Second.ensures.ref_ptr_value ∙ t.place }

pub returns-in-Ok-Same : goal.returns-in-Ok-Same
returns-in-Ok-Same c =
    let t = same_part _ _ c.stamp-one.result c.stamp-other.result c.stamp-one.ensures.0 c.stamp-other.ensures.0 _ _ (rw c.in-Ok-Same.field-0-is at c.in-Ok-Same.ensures) in
    record { contents = t.contents; place = t.place }

pub returns-in-Err : goal.returns-in-Err
returns-in-Err c =
    let t = refused_part _ _ c.stamp-one.result c.stamp-other.result c.stamp-one.ensures.0 c.stamp-other.ensures.0 _ _ _ c.in-Err.ensures in
    record { contents = t.contents; place = t.place }
