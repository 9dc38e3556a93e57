-- `strict::judge_section` meets its contract. Assumes nothing.
use Rattle.strict.proofs.Judging.{section_known, section_unknown}
use Rattle.strict.proofs.judge_section.Goals as goal

pub returns-in-Ok : goal.returns-in-Ok
returns-in-Ok c =
    λ g earlier K. section_known c.args.room.now c.args.index earlier K g c.args.name.now _ _ c.in-Ok.ensures

pub returns-in-Err : goal.returns-in-Err
returns-in-Err c =
    λ g earlier K. section_unknown c.args.room.now c.args.index earlier K g c.args.name.now _ _ c.in-Err.ensures
