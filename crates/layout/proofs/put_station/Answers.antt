-- `layout::put_station` meets its contract. Assumes nothing.
use Rattle.layout.proofs.Laws.{station_laid}
use Rattle.layout.proofs.put_station.Goals as goal

pub returns : goal.returns
returns c =
    station_laid c.args.out.now c.args.fields c.args.len _ _ c.requires.1 c.put_start.ensures
    c.put_point.ensures
