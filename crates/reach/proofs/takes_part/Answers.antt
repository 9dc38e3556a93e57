-- `reach::takes_part` meets its contract. Assumes nothing.
use native.Mathlib.Omega.{arith}
use mathlib.Core.Path.{sym, ◌∙◌}
use Rattle.format.proofs.ReachLaws.{takes_all, takes_not, takes_same, takes_longer}
use Rattle.format.proofs.ReachLaws.{begins_short}
use Rattle.reach.proofs.takes_part.Goals as goal

pub returns-then-n-eq0 : goal.returns-then-n-eq0
returns-then-n-eq0 c = sym (takes_all _ _ c.if-n-eq0.true)

pub returns-then-not-begins_with : goal.returns-then-not-begins_with
returns-then-not-begins_with c =
    sym (takes_not _ _ (omega (arith, c.if-n-eq0.false)) (sym c.begins_with.ensures ∙ c.if-not-begins_with.true))

pub returns-then-label-n : goal.returns-then-label-n
returns-then-label-n c =
    sym (takes_same _ _ (sym c.begins_with.ensures ∙ c.if-not-begins_with.false) (omega (arith, c.if-label-n.true)))

pub bounds-label-n : goal.bounds-label-n
bounds-label-n c =
    let e = begins_short _ _ (sym c.begins_with.ensures ∙ c.if-not-begins_with.false) in
    omega (arith, e, c.if-label-n.false)

pub returns : goal.returns
returns c =
    let b = sym c.begins_with.ensures ∙ c.if-not-begins_with.false in
    sym (takes_longer _ _ (omega (arith, c.if-n-eq0.false)) b (omega (arith, begins_short _ _ b, c.if-label-n.false)))
