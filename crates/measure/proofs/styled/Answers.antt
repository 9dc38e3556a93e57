-- `measure::styled` meets its contract. Assumes nothing.
use mathlib.Core.Logic.{inl, inr}
use Rattle.measure.proofs.Items.{style_set, style_end}
use Rattle.measure.proofs.styled.Goals as goal

pub returns-then-old-eq0 : goal.returns-then-old-eq0
returns-then-old-eq0 c =
    (tt, λ len placed. style_end _ _ len placed c.if-style-eq0.true c.if-old-eq0.true)

pub returns : goal.returns
returns c =
    (tt, λ len placed. style_set _ _ len placed (λ z. elim c.else-style-eq0.either [ inl x ↦ x.1 z.1 | inr x ↦ x z.0 ]))
