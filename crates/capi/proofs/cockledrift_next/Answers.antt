-- `capi::cockledrift_next` meets its contract. Assumes nothing.
use mathlib.Core.Path.{ap}
use lib.ListN.{length}
use Rattle.capi.proofs.Goings.{goes_first, goes_stops, goes_last, goes_again}
use borrow.Author.Rules.{rules}
use Rattle.capi.proofs.cockledrift_next.Goals as goal

pub loop-answer-init : goal.loop-answer-init
loop-answer-init c = goes_first _ _ _ _

pub shape_of-out-then-answer-ne2 : goal.shape_of-out-then-answer-ne2
shape_of-out-then-answer-ne2 c =
    let u = ap length c.loop-answer.invariant.left.unwritten in search rules

pub returns-then-answer-ne2 : goal.returns-then-answer-ne2
returns-then-answer-ne2 c =
    let E = c.cockledrift_step-answer.ensures in
    let z = goes_stops c.loop-answer.invariant E.answer E.«record» E.stand c.if-answer-ne2.true in
    record { answer = z.0; stand = z.1.0; «record» = z.1.1 }

pub shape_of-out-then-left-eq0 : goal.shape_of-out-then-left-eq0
shape_of-out-then-left-eq0 c =
    let u = ap length c.loop-answer.invariant.left.unwritten in search rules

pub returns-then-left-eq0 : goal.returns-then-left-eq0
returns-then-left-eq0 c =
    let E = c.cockledrift_step-answer.ensures in
    let z = goes_last c.loop-answer.invariant E.answer E.«record» E.stand c.if-left-eq0.true in
    record { answer = z.0; stand = z.1.0; «record» = z.1.1 }

pub loop-answer-preserved : goal.loop-answer-preserved
loop-answer-preserved c =
    let E = c.cockledrift_step-answer.ensures in
    goes_again c.loop-answer.invariant
    E.answer E.«record» E.stand c.if-left-eq0.false c.if-answer-ne2.false
