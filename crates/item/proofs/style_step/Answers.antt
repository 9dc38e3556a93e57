-- `item::style_step` meets its contract. Assumes nothing.
use mathlib.Core.Path.{refl}
use Rattle.item.proofs.Steps.{style_other, style_first, style_end}
use Rattle.item.proofs.style_step.Goals.{else-style-eq0-via-then-style-eq0+else-setting-eq0, else-style-eq0-via-else-style-eq0}
use Rattle.item.proofs.style_step.Goals as goal

pub returns-then-setting-eq0 : goal.returns-then-setting-eq0
returns-then-setting-eq0 c =
    style_end _ _ c.args.setting c.args.setting c.if-style-eq0.true c.if-setting-eq0.true

pub returns : goal.returns
returns c =
    elim c.else-style-eq0.branch [
      | else-style-eq0-via-then-style-eq0+else-setting-eq0 w ↦ style_first _ _ c.args.setting _ refl w.if-style-eq0.true w.if-setting-eq0.false
      | else-style-eq0-via-else-style-eq0 w ↦ style_other _ _ c.args.setting _ refl w.if-style-eq0.false
    ]
