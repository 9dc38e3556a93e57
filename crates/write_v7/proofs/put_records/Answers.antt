-- `write_v7::put_records` meets its contract. Assumes nothing.
use mathlib.Core.Path.{◌∙◌}
use native.Mathlib.Omega.{arith}
use borrow.Author.Tests.{eq-eqb, ne_eqb}
use Rattle.format.specs.Writing.{v7}
use Rattle.sheet.proofs.EntryAt.{found_size}
use Rattle.counts.proofs.Left.{rest_refused, left_end}
use Rattle.write.proofs.Turn.{rejoined}
use Rattle.write_v7.proofs.Turn.{going_none, going_end, going_barred, going_flawed, going_more}
use Rattle.write_v7.proofs.put_records.Goals as goal

pub loop-at-init : goal.loop-at-init
loop-at-init c =
    rw (c.hand_of-hand.ensures, c.start_setting.ensures) (going_none _ _ _ _ _ _ c.requires.0 c.requires.1)

pub returns-in_default : goal.returns-in_default
returns-in_default c =
    let W = c.within-room.ensures in
    let T = rw c.in_default.is at c.put_next.ensures in
    rw c.at.ensures
    (rest_refused v7 _ _ _ _ (rejoined _ c.put_next.new.out _ W.0
    T.1 ∙ c.loop-at.invariant.stands.kept) 12 _ (going_flawed _ _ _ _ _ _ _ _ _ _ _ _ c.loop-at.invariant c.loop-at-test.true T.0))

pub loop-at-smaller : goal.loop-at-smaller
loop-at-smaller c =
    let w = found_size _ c.args.sheet.now c.loop-at.at c.loop-at-test.true _ _ _ c.in-Some.ensures.told in
    omega (arith, w.0, w.1)

pub overflow_add-at : goal.overflow_add-at
overflow_add-at c =
    let w = found_size _ c.args.sheet.now c.loop-at.at c.loop-at-test.true _ _ _ c.in-Some.ensures.told in
    omega (arith, w.0, w.1, c.well_formed)

pub loop-at-preserved : goal.loop-at-preserved
loop-at-preserved c =
    let W = c.within-room.ensures in
    rw c.more-total.ensures
    (going_more _ _ _ _ _ _ _ _ _ _ _ _ c.loop-at.invariant c.loop-at-test.true _ _ _ _ _ _ W.0 W.1
    c.in-Some.ensures _ (rw c.at-in-loop-at.ensures at c.first_at-fault.ensures))

pub returns-then-extended-eq1 : goal.returns-then-extended-eq1
returns-then-extended-eq1 c =
    rw c.at-then-extended-eq1.ensures
    (rest_refused v7 _ _ _ _ c.loop-at.invariant.stands.kept 23 0 (going_barred _ _ _ _ _ _ _ _ _ _ _ _
    c.loop-at.invariant c.loop-at-test.false (eq-eqb _ 1 c.if-extended-eq1.true)))

pub returns : goal.returns
returns c =
    let L = going_end _ _ _ _ _ _ _ _ _ _ _ _ c.loop-at.invariant
    c.loop-at-test.false (ne_eqb _ 1 c.if-extended-eq1.false) in
    left_end v7 _ _ _ _ _ _ _ _ c.loop-at.invariant.stands.kept L c.finish.ensures
