-- `codes::put_record` meets its contract. Assumes nothing.
use native.Mathlib.Omega.{arith}
use Rattle.format.specs.Codes.{codes_limit}
use Rattle.part.proofs.Laying.{lays_within, puts_front}
use Rattle.codes.proofs.put_record.Goals as goal

pub put_leg-requires : goal.put_leg-requires
put_leg-requires c =
    rw c.in-Leg.is at c.requires

pub put_station-requires : goal.put_station-requires
put_station-requires c =
    rw c.in-Station.is at c.requires

pub put_section-requires : goal.put_section-requires
put_section-requires c =
    rw c.in-Section.is at c.requires

pub returns-in-Leg : goal.returns-in-Leg
returns-in-Leg c =
    rw c.in-Leg.is
    (puts_front c.put_leg.ensures)

pub returns-in-Station : goal.returns-in-Station
returns-in-Station c =
    rw c.in-Station.is
    (puts_front (lays_within c.put_station.ensures codes_limit (omega arith)))

pub returns-in-Section : goal.returns-in-Section
returns-in-Section c =
    rw c.in-Section.is
    (puts_front (lays_within c.put_section.ensures codes_limit (omega arith)))

pub returns-in-Error : goal.returns-in-Error
returns-in-Error c =
    rw c.in-Error.is
    (puts_front (lays_within c.put_error.ensures codes_limit (omega arith)))
