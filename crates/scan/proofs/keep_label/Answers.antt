-- `scan::keep_label` meets its contract. Assumes nothing.
use mathlib.Core.Path.{refl}
use Rattle.scan.proofs.keep_label.Goals as goal

pub returns-in-Leg : goal.returns-in-Leg
returns-in-Leg c =
    rw c.in-Leg.is c.swap_label.ensures

pub returns-in-Station : goal.returns-in-Station
returns-in-Station c =
    rw c.in-Station.is c.swap_label-in-Station.ensures

pub returns-in-Section : goal.returns-in-Section
returns-in-Section c =
    rw c.in-Section.is c.swap_label-in-Section.ensures

pub returns-in-Error : goal.returns-in-Error
returns-in-Error c =
    rw c.in-Error.is (record { label_is = refl; label_short = c.requires.0; label_whole = c.requires.1 })
