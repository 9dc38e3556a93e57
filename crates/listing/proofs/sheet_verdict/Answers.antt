-- `listing::sheet_verdict` meets its contract: the front, then the records behind it. Assumes nothing.
use native.Mathlib.Omega.{arith}
use mathlib.Core.Path.{◌∙◌}
use Rattle.listing.proofs.Sheets.{verdict_none, verdict_some}
use Rattle.listing.proofs.sheet_verdict.Goals as goal

pub records_verdict-requires : goal.records_verdict-requires
records_verdict-requires c = omega (arith, c.in-Some.ensures.title_short, c.in-Some.ensures.time_short, c.in-Some.ensures.inside)

pub returns-in_default : goal.returns-in_default
returns-in_default c = rw c.at.ensures (verdict_none _ _ c.version_of-layout.ensures c.in_default.ensures)

pub returns : goal.returns
returns c =
    c.records_verdict.ensures ∙ verdict_some _ c.args.sheet.now c.version_of-layout.ensures c.in-Some.ensures
