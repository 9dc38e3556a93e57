-- `listing::record_line` meets its contract: by the kind of record. Assumes nothing.
use native.Mathlib.Omega.{arith}
use Rattle.listing.proofs.Stores.{put_as}
use Rattle.listing.proofs.record_line.Goals as goal

pub returns-in-Leg : goal.returns-in-Leg
returns-in-Leg c =
    put_as c.leg_line.ensures (omega arith) (rw c.in-Leg.is)

pub returns-in-Station : goal.returns-in-Station
returns-in-Station c =
    put_as c.station_line.ensures (omega arith) (rw c.in-Station.is)

pub returns-in-Section : goal.returns-in-Section
returns-in-Section c =
    put_as c.section_line.ensures (omega arith) (rw c.in-Section.is)

pub returns-in-Error : goal.returns-in-Error
returns-in-Error c =
    put_as c.error_line.ensures (omega arith) (rw c.in-Error.is)
