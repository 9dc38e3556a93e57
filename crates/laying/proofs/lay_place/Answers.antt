-- `laying::lay_place` meets its contract. Assumes nothing.
use Rattle.laying.proofs.lay_place.Goals as goal

pub returns : goal.returns
returns c =
    let L = c.lay_station.ensures in
    record { label = L.label; sheet = rw c.station_at-station.ensures at L.sheet; answer = L.answer }
