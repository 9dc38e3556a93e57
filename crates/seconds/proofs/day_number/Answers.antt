-- `day_number` meets its contract, and its sums are small. Assumes nothing.
use native.Mathlib.Omega.{arith}
use Prim.Native.Nat.{◌-◌, ◌≤◌}
use Rattle.format.specs.Times.{day_number}
use Rattle.seconds.proofs.Days.{years, months_short}
use Rattle.seconds.proofs.day_number.Goals as goal

pub days_before-months-requires : goal.days_before-months-requires
days_before-months-requires c = (omega arith, omega arith, omega arith)

pub returns : goal.returns
unfolding day_number
returns c =
    let m = (let it : c.days_before-months.result ≤ 335 = omega (arith, months_short _ c.args.month c.leap_day-extra.ensures.1 c.requires.2 c.requires.3, c.days_before-months.ensures) in it) in
    rw (c.days_of_years-years.ensures, c.days_before-months.ensures, c.leap_day-extra.ensures.0)

pub overflow_add-result : goal.overflow_add-result
overflow_add-result c =
    omega (arith, (let it : c.days_of_years-years.result ≤ 47117 = omega (arith, years (c.args.year - 1970), c.days_of_years-years.ensures) in it), (let it : c.days_before-months.result ≤ 335 = omega (arith, months_short _ c.args.month c.leap_day-extra.ensures.1 c.requires.2 c.requires.3, c.days_before-months.ensures) in it))

pub overflow_add-result-2 : goal.overflow_add-result-2
overflow_add-result-2 c =
    omega (arith, (let it : c.days_of_years-years.result ≤ 47117 = omega (arith, years (c.args.year - 1970), c.days_of_years-years.ensures) in it), (let it : c.days_before-months.result ≤ 335 = omega (arith, months_short _ c.args.month c.leap_day-extra.ensures.1 c.requires.2 c.requires.3, c.days_before-months.ensures) in it))
