-- `read::turn_again` meets its contract. Assumes nothing.
use mathlib.Core.Path.{ap, ◌∙◌}
use Rattle.std.specs.Prelude.{Some}
use native.Mathlib.Omega.{arith}
use Rattle.read.proofs.Quickly.{line_unset, again_led}
use Rattle.read.proofs.turn_again.Goals as goal

pub returns-in_err-point : goal.returns-in_err-point
returns-in_err-point c = rw c.from_residual.ensures (line_unset _ _ _ _ _ _ _ _ c.in_err-point.was)

pub behind-here-requires : goal.behind-here-requires
behind-here-requires c =
    (c.requires.1.few, record { few = omega (arith, c.requires.2); small = omega arith }, omega arith)

pub returns : goal.returns
returns c =
    let g = c.leg_at-leg.ensures in
    let L = c.lay_same_freely.ensures in
    again_led _ _ _ _ _ _ _ _ c.in_ok-point.was (ap Some (c.leads.ensures ∙ rw (c.behind-here.ensures, g))) (rw g at L)
