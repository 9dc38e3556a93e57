-- `layout::record_size` meets its contract. Assumes nothing.
use native.Mathlib.Omega.{arith}
use mathlib.Core.Path.{refl}
use Rattle.layout.proofs.record_size.Goals as goal

pub returns-in-Leg : goal.returns-in-Leg
returns-in-Leg c = rw c.in-Leg.is (refl, omega arith)

pub returns-in-Station : goal.returns-in-Station
returns-in-Station c = rw c.in-Station.is (refl, omega arith)

pub returns-in-Section : goal.returns-in-Section
returns-in-Section c = rw c.in-Section.is (refl, omega arith)
