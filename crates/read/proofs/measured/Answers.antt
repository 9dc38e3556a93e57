-- `read::measured` meets its contract. Assumes nothing.
use native.Mathlib.Omega.{arith}
use mathlib.Core.Path.{◌≡◌, refl}
use lib.ListN.{length}
use Rattle.wire.proofs.Laws.{none_before}
use Rattle.read.proofs.measured.Goals as goal

pub pass-requires : goal.pass-requires
pass-requires c = (c.requires.0, record { ready = tt })

pub returns-then-course-lt8 : goal.returns-then-course-lt8
returns-then-course-lt8 c =
    let y = c.pass.new.lent in
    let hy : length y ≡ 0 = omega (arith, c.pass.auto.lent) in record { answer = c.pass.ensures.answer; sheet = none_before y c.args.sheet.now hy }

pub measure-requires : goal.measure-requires
measure-requires c = let p = c.requires.0 in (p.fits, p.inside, p.front_few)

pub returns : goal.returns
returns c =
    let e : c.args.course.version ≡ 8 = omega (arith, c.if-course-lt8.false, c.requires.1) in record { answer = rw e c.measure.ensures; sheet = refl }
