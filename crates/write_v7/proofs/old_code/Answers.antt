-- `write_v7::old_code` meets its contract. Assumes nothing.
use Rattle.write_v7.proofs.old_code.Goals as goal

pub returns-in-Leg : goal.returns-in-Leg
returns-in-Leg c = rw c.in-Leg.is

pub returns-in-Station : goal.returns-in-Station
returns-in-Station c = rw c.in-Station.is
