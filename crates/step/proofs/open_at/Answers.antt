-- `step::open_at` meets its contract. Assumes nothing.
use Rattle.format.specs.Header.{opening_of}
use Rattle.format.specs.Stepping.{open_stand}
use Rattle.step.proofs.Laws.{opens_shut, opens_at}
use Rattle.step.proofs.open_at.Goals as goal

pub returns-in-Err : goal.returns-in-Err
unfolding open_stand
returns-in-Err c = opens_shut _ (opening_of c.args.file.now) _ _ _ c.in-Err.ensures c.fresh.ensures

pub returns-in-Ok : goal.returns-in-Ok
unfolding open_stand
returns-in-Ok c = opens_at _ _ (opening_of c.args.file.now) _ c.in-Ok.ensures c.fresh-in-Ok.ensures
