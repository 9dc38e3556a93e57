-- `reach::reach` meets its contract. Assumes nothing.
use native.Mathlib.Omega.{arith}
use mathlib.Core.Path.{◌∙◌}
use Rattle.reach.proofs.Turn.{whole_flawed, whole_records}
use Rattle.reach.proofs.reach.Goals as goal

pub records_reach-requires : goal.records_reach-requires
records_reach-requires c = omega (arith, c.in-Some.ensures.title_short, c.in-Some.ensures.time_short, c.in-Some.ensures.inside)

pub returns-in_default : goal.returns-in_default
returns-in_default c = rw c.at.ensures (whole_flawed _ _ c.args.name.now c.version_of-version.ensures c.in_default.ensures)

pub returns : goal.returns
returns c =
    c.records_reach.ensures ∙ whole_records _ c.args.sheet.now c.args.name.now c.version_of-version.ensures c.in-Some.ensures
