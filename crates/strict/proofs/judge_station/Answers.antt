-- `strict::judge_station` meets its contract. Assumes nothing.
use Rattle.strict.proofs.Judging.{station_judged}
use Rattle.strict.proofs.judge_station.Goals as goal

pub returns : goal.returns
returns c =
    λ flags earlier K. station_judged c.args.room.now c.args.index earlier K (record { flags = flags; place = c.args.place }) c.args.name.now _ _ c.take.ensures
