-- `label::kept_of` meets its contract. Assumes nothing.
use native.Mathlib.Omega.{arith}
use mathlib.Core.Path.{refl, ◌∙◌}
use Rattle.label.proofs.Steps.{trim_after, back_after}
use Rattle.label.proofs.kept_of.Goals as goal

pub returns-in-Empty : goal.returns-in-Empty
returns-in-Empty c = rw c.in-Empty.is (refl, omega arith)

pub returns-in-ToDot : goal.returns-in-ToDot
returns-in-ToDot c =
    rw c.in-ToDot.is c.kept_to_dot.ensures

pub returns-in-Trim : goal.returns-in-Trim
returns-in-Trim c =
    let e = c.kept_after.ensures in
    rw c.in-Trim.is (e.0 ∙ trim_after c.args.bytes.now c.args.len _ (omega (arith, c.requires)), e.1)

pub returns-in-Back : goal.returns-in-Back
returns-in-Back c =
    let e = c.kept_after-in-Back.ensures in
    rw c.in-Back.is (e.0 ∙ back_after c.args.bytes.now c.args.len _ (omega (arith, c.requires)), e.1)
