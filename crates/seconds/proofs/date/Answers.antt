-- `date` meets its contract: three fields, then the rule of the date. Assumes nothing.
use Rattle.std.specs.Prelude.{Some}
use native.Mathlib.Omega.{arith}
use mathlib.Core.Path.{◌≡◌, sym, ap, ◌∙◌}
use lib.ListN.{drop}
use Rattle.format.specs.Bytes.{pick}
use Rattle.format.specs.Times.{text_day}
use Rattle.seconds.specs.Reading.{date_of}
use Rattle.seconds.proofs.Digits.{Said, field_told, field_untold}
use Rattle.seconds.proofs.Days.{real}
use Rattle.seconds.proofs.date.Goals as goal

pub returns-in_err-year : goal.returns-in_err-year
unfolding date_of pick text_day
returns-in_err-year c =
    rw c.from_residual.ensures (simp (field_untold 4 (omega arith) (drop 4 c.args.line.now) (c.in_err-year.ensures)))

pub returns-in_err-month : goal.returns-in_err-month
unfolding date_of pick text_day
returns-in_err-month c =
    rw c.from_residual-in_err-month.ensures (simp (((let it : Said 4 (drop 4 c.args.line.now) c.in_ok-year.year = field_told 4 (omega arith) _ _ (c.in_ok-year.ensures) in it)).digits, field_untold 2 (omega arith) (drop 9 c.args.line.now) (c.in_err-month.ensures)))

pub returns-in_err-day : goal.returns-in_err-day
unfolding date_of pick text_day
returns-in_err-day c =
    rw c.from_residual-in_err-day.ensures (simp (((let it : Said 4 (drop 4 c.args.line.now) c.in_ok-year.year = field_told 4 (omega arith) _ _ (c.in_ok-year.ensures) in it)).digits, ((let it : Said 2 (drop 9 c.args.line.now) c.in_ok-month.month = field_told 2 (omega arith) _ _ (c.in_ok-month.ensures) in it)).digits, field_untold 2 (omega arith) (drop 12 c.args.line.now) (c.in_err-day.ensures)))

pub returns-then-not-real_date : goal.returns-then-not-real_date
unfolding date_of pick text_day
returns-then-not-real_date c =
    simp (((let it : Said 4 (drop 4 c.args.line.now) c.in_ok-year.year = field_told 4 (omega arith) _ _ (c.in_ok-year.ensures) in it)).digits, ((let it : Said 2 (drop 9 c.args.line.now) c.in_ok-month.month = field_told 2 (omega arith) _ _ (c.in_ok-month.ensures) in it)).digits, ((let it : Said 2 (drop 12 c.args.line.now) c.in_ok-day.day = field_told 2 (omega arith) _ _ (c.in_ok-day.ensures) in it)).digits, ← (let it : c.real_date.result ≡ text_day c.args.line.now = rw (← ((let it : Said 4 (drop 4 c.args.line.now) c.in_ok-year.year = field_told 4 (omega arith) _ _ (c.in_ok-year.ensures) in it)).is, ← ((let it : Said 2 (drop 9 c.args.line.now) c.in_ok-month.month = field_told 2 (omega arith) _ _ (c.in_ok-month.ensures) in it)).is, ← ((let it : Said 2 (drop 12 c.args.line.now) c.in_ok-day.day = field_told 2 (omega arith) _ _ (c.in_ok-day.ensures) in it)).is) c.real_date.ensures in it), c.if-not-real_date.true)

pub day_number-requires : goal.day_number-requires
day_number-requires c =
    let r = real _ _ _ (sym c.real_date.ensures ∙ c.if-not-real_date.false) in
    (r.from, r.to, r.first, r.last, r.least, r.most)

pub returns : goal.returns
unfolding date_of pick text_day
returns c =
    let y = (let it : Said 4 (drop 4 c.args.line.now) c.in_ok-year.year = field_told 4 (omega arith) _ _ (c.in_ok-year.ensures) in it) in
    let m = (let it : Said 2 (drop 9 c.args.line.now) c.in_ok-month.month = field_told 2 (omega arith) _ _ (c.in_ok-month.ensures) in it) in
    let d = (let it : Said 2 (drop 12 c.args.line.now) c.in_ok-day.day = field_told 2 (omega arith) _ _ (c.in_ok-day.ensures) in it) in
    simp (y.digits, m.digits, d.digits, ← (let it : c.real_date.result ≡ text_day c.args.line.now = rw (← ((let it : Said 4 (drop 4 c.args.line.now) c.in_ok-year.year = field_told 4 (omega arith) _ _ (c.in_ok-year.ensures) in it)).is, ← ((let it : Said 2 (drop 9 c.args.line.now) c.in_ok-month.month = field_told 2 (omega arith) _ _ (c.in_ok-month.ensures) in it)).is, ← ((let it : Said 2 (drop 12 c.args.line.now) c.in_ok-day.day = field_told 2 (omega arith) _ _ (c.in_ok-day.ensures) in it)).is) c.real_date.ensures in it), c.if-not-real_date.false) (ap Some (rw (y.is, m.is, d.is) at c.day_number.ensures))
