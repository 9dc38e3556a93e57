-- `held::numbers_of` meets its contract. Assumes nothing.
use Rattle.held.proofs.Narrow.{narrow}
use Rattle.held.proofs.numbers_of.Goals as goal

pub returns : goal.returns
returns c =
    rw (
      c.phase_numbers-phase.ensures,
      c.date_numbers-date.ensures,
      c.place_numbers-position.ensures,
      narrow c.wide8-version.ensures,
      narrow c.wide8-style.ensures,
    )
