-- `strict::judge` meets its contract. Assumes nothing.
use native.Mathlib.Omega.{arith}
use mathlib.Core.Path.{refl, sym}
use lib.Seq.{length-take-le}
use Rattle.strict.proofs.Judging.{knows_leg, knows_error}
use Rattle.strict.proofs.judge.Goals as goal

pub slice_bounds-name-end : goal.slice_bounds-name-end
slice_bounds-name-end c =
    sym (length-take-le c.args.len c.args.bytes.now (omega (arith, c.requires.1, c.requires.2)))

pub judge_station-requires : goal.judge_station-requires
judge_station-requires c =
    let e = length-take-le c.args.len c.args.bytes.now (omega (arith, c.requires.1, c.requires.2)) in
    (c.requires.0, omega (arith, e, c.requires.1), c.requires.3)

pub returns-in-Leg : goal.returns-in-Leg
returns-in-Leg c = rw c.in-Leg.is (λ earlier K. (refl, knows_leg _ _ _ K _ _))

pub returns-in-Station : goal.returns-in-Station
returns-in-Station c = rw c.in-Station.is (λ earlier K. c.judge_station.ensures _ earlier K)

pub returns-in-Section : goal.returns-in-Section
returns-in-Section c = rw c.in-Section.is (λ earlier K. c.judge_section.ensures _ earlier K)

pub returns-in-Error : goal.returns-in-Error
returns-in-Error c = rw c.in-Error.is (λ earlier K. (refl, knows_error _ _ _ K _))
