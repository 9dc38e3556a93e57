-- `clock` meets its contract: three fields, then their bounds. Assumes nothing.
use native.Mathlib.Omega.{arith}
use lib.ListN.{drop}
use borrow.Author.Tests.{le-leb, lt-leb}
use Rattle.format.specs.Bytes.{pick}
use Rattle.format.specs.Times.{text_clock}
use Rattle.seconds.specs.Reading.{clock_of}
use Rattle.seconds.proofs.Digits.{Said, field_told, field_untold}
use Rattle.seconds.proofs.clock.Goals as goal

pub returns-in_err-hour : goal.returns-in_err-hour
unfolding clock_of text_clock pick
returns-in_err-hour c =
    rw c.from_residual.ensures (simp (field_untold 2 (omega arith) (drop 15 c.args.line.now) (c.in_err-hour.ensures)))

pub returns-in_err-minute : goal.returns-in_err-minute
unfolding clock_of text_clock pick
returns-in_err-minute c =
    rw c.from_residual-in_err-minute.ensures (simp (((let it : Said 2 (drop 15 c.args.line.now) c.in_ok-hour.hour = field_told 2 (omega arith) _ _ (c.in_ok-hour.ensures) in it)).digits, field_untold 2 (omega arith) (drop 18 c.args.line.now) (c.in_err-minute.ensures)))

pub returns-in_err-second : goal.returns-in_err-second
unfolding clock_of text_clock pick
returns-in_err-second c =
    rw c.from_residual-in_err-second.ensures (simp (((let it : Said 2 (drop 15 c.args.line.now) c.in_ok-hour.hour = field_told 2 (omega arith) _ _ (c.in_ok-hour.ensures) in it)).digits, ((let it : Said 2 (drop 18 c.args.line.now) c.in_ok-minute.minute = field_told 2 (omega arith) _ _ (c.in_ok-minute.ensures) in it)).digits, field_untold 2 (omega arith) (drop 21 c.args.line.now) (c.in_err-second.ensures)))

pub returns-then-hour-gt23 : goal.returns-then-hour-gt23
unfolding clock_of text_clock pick
returns-then-hour-gt23 c =
    let h = (let it : Said 2 (drop 15 c.args.line.now) c.in_ok-hour.hour = field_told 2 (omega arith) _ _ (c.in_ok-hour.ensures) in it) in
    let m = (let it : Said 2 (drop 18 c.args.line.now) c.in_ok-minute.minute = field_told 2 (omega arith) _ _ (c.in_ok-minute.ensures) in it) in
    let s = (let it : Said 2 (drop 21 c.args.line.now) c.in_ok-second.second = field_told 2 (omega arith) _ _ (c.in_ok-second.ensures) in it) in
    simp (h.digits, m.digits, s.digits, lt-leb _ 23 (rw h.is at c.if-hour-gt23.true))

pub returns-then-minute-gt59 : goal.returns-then-minute-gt59
unfolding clock_of text_clock pick
returns-then-minute-gt59 c =
    let h = (let it : Said 2 (drop 15 c.args.line.now) c.in_ok-hour.hour = field_told 2 (omega arith) _ _ (c.in_ok-hour.ensures) in it) in
    let m = (let it : Said 2 (drop 18 c.args.line.now) c.in_ok-minute.minute = field_told 2 (omega arith) _ _ (c.in_ok-minute.ensures) in it) in
    let s = (let it : Said 2 (drop 21 c.args.line.now) c.in_ok-second.second = field_told 2 (omega arith) _ _ (c.in_ok-second.ensures) in it) in
    simp (h.digits, m.digits, s.digits, le-leb _ 23 (rw h.is at c.if-hour-gt23.false), lt-leb _ 59 (rw m.is at c.if-minute-gt59.true))

pub returns-then-second-gt59 : goal.returns-then-second-gt59
unfolding clock_of text_clock pick
returns-then-second-gt59 c =
    let h = (let it : Said 2 (drop 15 c.args.line.now) c.in_ok-hour.hour = field_told 2 (omega arith) _ _ (c.in_ok-hour.ensures) in it) in
    let m = (let it : Said 2 (drop 18 c.args.line.now) c.in_ok-minute.minute = field_told 2 (omega arith) _ _ (c.in_ok-minute.ensures) in it) in
    let s = (let it : Said 2 (drop 21 c.args.line.now) c.in_ok-second.second = field_told 2 (omega arith) _ _ (c.in_ok-second.ensures) in it) in
    simp (h.digits, m.digits, s.digits, le-leb _ 23 (rw h.is at c.if-hour-gt23.false), le-leb _ 59 (rw m.is at c.if-minute-gt59.false), lt-leb _ 59 (rw s.is at c.if-second-gt59.true))

pub returns : goal.returns
unfolding clock_of text_clock pick
returns c =
    let h = (let it : Said 2 (drop 15 c.args.line.now) c.in_ok-hour.hour = field_told 2 (omega arith) _ _ (c.in_ok-hour.ensures) in it) in
    let m = (let it : Said 2 (drop 18 c.args.line.now) c.in_ok-minute.minute = field_told 2 (omega arith) _ _ (c.in_ok-minute.ensures) in it) in
    let s = (let it : Said 2 (drop 21 c.args.line.now) c.in_ok-second.second = field_told 2 (omega arith) _ _ (c.in_ok-second.ensures) in it) in
    simp (h.digits, m.digits, s.digits, le-leb _ 23 (rw h.is at c.if-hour-gt23.false), le-leb _ 59 (rw m.is at c.if-minute-gt59.false), le-leb _ 59 (rw s.is at c.if-second-gt59.false)) (rw (h.is, m.is, s.is))

pub overflow_mul-result : goal.overflow_mul-result
overflow_mul-result c =
    omega (arith, c.if-hour-gt23.false, c.if-minute-gt59.false, c.if-second-gt59.false)

pub overflow_mul-result-2 : goal.overflow_mul-result-2
overflow_mul-result-2 c =
    omega (arith, c.if-hour-gt23.false, c.if-minute-gt59.false, c.if-second-gt59.false)

pub overflow_add-result : goal.overflow_add-result
overflow_add-result c =
    omega (arith, c.if-hour-gt23.false, c.if-minute-gt59.false, c.if-second-gt59.false)

pub overflow_add-result-2 : goal.overflow_add-result-2
overflow_add-result-2 c =
    omega (arith, c.if-hour-gt23.false, c.if-minute-gt59.false, c.if-second-gt59.false)
