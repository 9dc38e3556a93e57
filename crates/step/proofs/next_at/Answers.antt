-- `step::next_at` meets its contract. Assumes nothing.
use Rattle.std.specs.Prelude.{Ok}
use native.Mathlib.Omega.{arith}
use mathlib.Core.Path.{ap, ◌∙◌}
use lib.ListN.{length}
use borrow.Author.Rules.{rules}
use Rattle.step.proofs.GoingLaws.{left_from, left_among, left_refused, left_last, left_next}
use Rattle.step.proofs.next_at.Goals as goal

pub loop-taken-init : goal.loop-taken-init
loop-taken-init c = left_from _ _ _ _ _ (omega arith)

pub shape_of-out-in_default : goal.shape_of-out-in_default
shape_of-out-in_default c =
    let u = ap length c.loop-taken.invariant.unwritten in search rules

pub returns-in_default : goal.returns-in_default
returns-in_default c = left_among c.loop-taken.invariant c.step_at-t.ensures _ c.in_default.is (search rules)

pub returns-in_default-2 : goal.returns-in_default-2
returns-in_default-2 c = left_refused c.loop-taken.invariant c.step_at-t.ensures _ c.in_default.is

pub returns : goal.returns
returns c =
    left_last c.loop-taken.invariant c.step_at.ensures (omega arith)

pub loop-taken-preserved : goal.loop-taken-preserved
loop-taken-preserved c =
    left_next c.loop-taken.invariant c.step_at-t.ensures _ (omega arith) (c.in-Ok-Nothing.is ∙ ap Ok (rw c.in-Ok-Nothing.is at c.in-Ok-Nothing.field-0-is))
