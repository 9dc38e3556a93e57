-- `real_date` meets its contract, test by test. Assumes nothing.
use borrow.Author.Tests.{le-leb, lt-leb}
use Rattle.format.specs.Times.{real_date}
use Rattle.seconds.proofs.real_date.Goals as goal

pub returns-then-year-lt1970 : goal.returns-then-year-lt1970
unfolding real_date
returns-then-year-lt1970 c = simp (lt-leb _ _ c.if-year-lt1970.true)

pub returns-then-year-gt2099 : goal.returns-then-year-gt2099
unfolding real_date
returns-then-year-gt2099 c = simp (le-leb _ _ c.if-year-lt1970.false, lt-leb _ _ c.if-year-gt2099.true)

pub returns-then-month-lt1 : goal.returns-then-month-lt1
unfolding real_date
returns-then-month-lt1 c =
    simp (le-leb _ _ c.if-year-lt1970.false, le-leb _ _ c.if-year-gt2099.false, lt-leb _ _ c.if-month-lt1.true)

pub returns-then-month-gt12 : goal.returns-then-month-gt12
unfolding real_date
returns-then-month-gt12 c =
    simp (le-leb _ _ c.if-year-lt1970.false, le-leb _ _ c.if-year-gt2099.false, le-leb _ _ c.if-month-lt1.false, lt-leb _ _ c.if-month-gt12.true)

pub returns-then-day-lt1 : goal.returns-then-day-lt1
unfolding real_date
returns-then-day-lt1 c =
    simp (le-leb _ _ c.if-year-lt1970.false, le-leb _ _ c.if-year-gt2099.false, le-leb _ _ c.if-month-lt1.false, le-leb _ _ c.if-month-gt12.false, lt-leb _ _ c.if-day-lt1.true)

pub returns : goal.returns
unfolding real_date
returns c =
    simp (c.month_length.ensures, c.leap_day-extra.ensures.0, le-leb _ _ c.if-year-lt1970.false, le-leb _ _ c.if-year-gt2099.false, le-leb _ _ c.if-month-lt1.false, le-leb _ _ c.if-month-gt12.false, le-leb _ _ c.if-day-lt1.false)
