-- `text_form` meets its contract, piece by piece. Assumes nothing.
use native.Mathlib.Omega.{arith}
use mathlib.Core.Path.{◌≡◌, sym, ◌∙◌}
use mathlib.Core.Bool.{true}
use Rattle.format.specs.Bytes.{pick}
use Rattle.format.specs.Times.{text_marks, text_zone, text_form}
use Rattle.seconds.proofs.Digits.{and_no}
use Rattle.seconds.proofs.Forms.{zone_length, Whole, whole, no_date, no_clock}
use Rattle.seconds.proofs.text_form.Goals as goal

pub returns-then-not-known_zone : goal.returns-then-not-known_zone
unfolding text_form pick
returns-then-not-known_zone c = simp (← c.known_zone.ensures, c.if-not-known_zone.true)

pub returns-then-not-marks : goal.returns-then-not-marks
unfolding text_form pick
returns-then-not-marks c = simp (← c.marks.ensures, c.if-not-marks.true, and_no)

pub returns-in_err-days : goal.returns-in_err-days
returns-in_err-days c = rw c.from_residual.ensures (no_date _ ((let it : text_zone c.args.line.now ≡ true = sym c.known_zone.ensures ∙ c.if-not-known_zone.false in it)) ((let it : text_marks c.args.line.now ≡ true = sym c.marks.ensures ∙ c.if-not-marks.false in it))
    (c.in_err-days.ensures))

pub returns-in_err-seconds : goal.returns-in_err-seconds
returns-in_err-seconds c = rw c.from_residual-in_err-seconds.ensures (no_clock _ ((let it : text_zone c.args.line.now ≡ true = sym c.known_zone.ensures ∙ c.if-not-known_zone.false in it))
    ((let it : text_marks c.args.line.now ≡ true = sym c.marks.ensures ∙ c.if-not-marks.false in it)) (c.in_err-seconds.ensures))

pub overflow_mul-result : goal.overflow_mul-result
overflow_mul-result c =
    let w = (let it : Whole
    c.args.line.now
    c.in_ok-days.days c.in_ok-seconds.seconds = whole _ ((let it : text_zone c.args.line.now ≡ true = sym c.known_zone.ensures ∙ c.if-not-known_zone.false in it))
    ((let it : text_marks c.args.line.now ≡ true = sym c.marks.ensures ∙ c.if-not-marks.false in it)) _ _
    (c.in_ok-days.ensures)
    (c.in_ok-seconds.ensures) in it) in
    omega arith

pub overflow_add-result : goal.overflow_add-result
overflow_add-result c =
    let w = (let it : Whole
    c.args.line.now
    c.in_ok-days.days c.in_ok-seconds.seconds = whole _ ((let it : text_zone c.args.line.now ≡ true = sym c.known_zone.ensures ∙ c.if-not-known_zone.false in it))
    ((let it : text_marks c.args.line.now ≡ true = sym c.marks.ensures ∙ c.if-not-marks.false in it)) _ _
    (c.in_ok-days.ensures)
    (c.in_ok-seconds.ensures) in it) in
    omega arith

pub returns : goal.returns
returns c = ((let it : Whole
    c.args.line.now
    c.in_ok-days.days c.in_ok-seconds.seconds = whole _ ((let it : text_zone c.args.line.now ≡ true = sym c.known_zone.ensures ∙ c.if-not-known_zone.false in it))
    ((let it : text_marks c.args.line.now ≡ true = sym c.marks.ensures ∙ c.if-not-marks.false in it)) _ _
    (c.in_ok-days.ensures)
    (c.in_ok-seconds.ensures) in it)).is

pub marks-requires : goal.marks-requires
marks-requires c =
    omega (arith, zone_length _ ((let it : text_zone c.args.line.now ≡ true = sym c.known_zone.ensures ∙ c.if-not-known_zone.false in it)))

pub date-requires : goal.date-requires
date-requires c =
    omega (arith, zone_length _ ((let it : text_zone c.args.line.now ≡ true = sym c.known_zone.ensures ∙ c.if-not-known_zone.false in it)))

pub clock-requires : goal.clock-requires
clock-requires c =
    omega (arith, zone_length _ ((let it : text_zone c.args.line.now ≡ true = sym c.known_zone.ensures ∙ c.if-not-known_zone.false in it)))
