-- `read::turn_line` meets its contract. Assumes nothing.
use mathlib.Core.Path.{ap, ◌∙◌}
use Rattle.std.specs.Prelude.{Some}
use Rattle.read.proofs.Quickly.{line_unset, line_led}
use Rattle.read.proofs.turn_line.Goals as goal

pub returns-in_err-point : goal.returns-in_err-point
returns-in_err-point c = rw c.from_residual.ensures (line_unset _ _ _ _ _ _ _ _ c.in_err-point.was)

pub returns : goal.returns
returns c =
    let g = c.leg_at-leg.ensures in
    let L = c.lay_leg_freely.ensures in
    line_led _ _ _ _ _ _ _ _ _ _ _ _ c.in_ok-point.was (ap Some (c.leads.ensures ∙ rw (c.behind-here.ensures, g))) L.label (rw g at L.sheet)
