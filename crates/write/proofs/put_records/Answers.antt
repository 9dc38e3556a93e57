-- `write::put_records` meets its contract: what is written, what is counted and what is left of the sheet come to the whole (`Going`), through
-- a record that goes on from the last (`going_plain`) and through one that is read the general way (`going_told`). Assumes nothing.
use mathlib.Core.Path.{◌∙◌}
use Rattle.format.specs.Writing.{v8}
use native.Mathlib.Omega.{arith}
use Rattle.sheet.proofs.EntryAt.{found_size}
use Rattle.counts.proofs.Left.{rest_refused, left_end}
use Rattle.write.proofs.Turn.{rejoined, going_none, going_end, going_flawed, going_told, going_plain}
use Rattle.write.proofs.put_records.Goals as goal

pub loop-at-init : goal.loop-at-init
loop-at-init c =
    rw (c.hand_of-hand.ensures, c.start_setting.ensures) (going_none _ _ _ _ _ c.requires.0 c.requires.1)

pub loop-at-preserved-in-Some : goal.loop-at-preserved-in-Some
loop-at-preserved-in-Some c =
    let W = c.within-room.ensures in
    rw (c.label_at.ensures, c.position_after-position.ensures, c.more-total.ensures)
    (going_plain _ _ _ _ _ _ _ _ _ _ _ _ c.loop-at.invariant c.loop-at-test.true c.in-Some.item c.in-Some.ensures _ _ _ W.0 W.1 c.put-n.ensures)

pub returns-in_default-entered : goal.returns-in_default-entered
returns-in_default-entered c =
    let W = c.within-room.ensures in
    let T = rw c.in_default-entered.is at c.put_entry-entered.ensures in
    let G = c.loop-at.invariant in
    let k = rejoined _ c.put_entry-entered.new.out _ W.0 T.1 ∙ G.kept in
    rw c.at.ensures (rest_refused v8 _ _ _ _ k 12 _ (going_flawed _ _ _ _ _ _ _ _ _ _ _ _ G c.loop-at-test.true T.0))

pub loop-at-smaller : goal.loop-at-smaller
loop-at-smaller c =
    let w = found_size _ c.args.sheet.now c.loop-at.at c.loop-at-test.true _ _ _ c.in-Some-entered.ensures.told in
    omega (arith, w.0, w.1)

pub loop-at-preserved : goal.loop-at-preserved
loop-at-preserved c =
    let O = c.within-room.ensures in
    let W = c.in-Some-entered.ensures in
    rw c.more-total-in-loop-at.ensures
    (going_told _ _ _ _ _ _ _ _ _ _ _ _ c.loop-at.invariant c.loop-at-test.true _ _ _ W.told _ _ _ _ O.0 O.1 W.puts
    c.first_fault-fault.ensures _ _ W.leaves W.stands)

pub returns : goal.returns
returns c =
    let G = c.loop-at.invariant in
    left_end v8 _ _ _ _ _ _ _ _ G.kept (going_end _ _ _ _ _ _ _ _ _ _ _ _ G c.loop-at-test.false) c.finish.ensures
