-- `judge::judge_records` meets its contract. Assumes nothing.
use mathlib.Core.Path.{◌≡◌}
use lib.ListN.{length}
use borrow.Author.Rules.{rules}
use Rattle.judge.proofs.Walk.{Judging, judging_first, judging_ready, judging_same, judging_brief, judging_foreign, judging_end}
use Rattle.judge.proofs.Walk.{judging_more, judging_passed}
use Rattle.judge.proofs.judge_records.Goals as goal
use Rattle.judge.proofs.judge_records.Goals.{In_default}

pub loop-passed-init : goal.loop-passed-init
loop-passed-init c =
    let w : length c.blank-spare.result.bytes ≡ 4096 = search rules in
    judging_first _ _ _ _ c.requires w c.room-room.ensures

pub take_brief-requires : goal.take_brief-requires
take_brief-requires c = judging_ready c.loop-passed.invariant

pub loop-passed-preserved-in-Some : goal.loop-passed-preserved-in-Some
loop-passed-preserved-in-Some c =
    judging_brief c.loop-passed.invariant _ _ c.loop-passed-test.true c.in-Some.ensures

-- a record that is not brief leaves the label as it was
still : (c : In_default)
    → Judging c.args.file.now c.args.from c.args.label.now c.args.limit c.loop-passed.place c.take_brief.new.label c.loop-passed.passed
    c.loop-passed.spare.bytes c.loop-passed.room
still c = judging_same c.loop-passed.invariant _ c.in_default.ensures

pub take_record-requires : goal.take_record-requires
take_record-requires c =
    let G = still (goal.at.take_record-requires c).In_default in (judging_ready G, G.spare_whole, G.room_whole)

pub returns-in-Foreign : goal.returns-in-Foreign
returns-in-Foreign c =
    let T = rw c.in-Foreign.is at c.in_ok-taken.ensures in judging_foreign (still (goal.at.returns-in-Foreign c).In_default) T.0

pub returns-in-End : goal.returns-in-End
returns-in-End c =
    let T = rw c.in-End.is at c.in_ok-taken.ensures in (judging_end (still (goal.at.returns-in-End c).In_default) T.0, c.loop-passed-test.true)

pub loop-passed-preserved : goal.loop-passed-preserved
loop-passed-preserved c =
    let T = rw c.in-Record.is at c.in_ok-taken.ensures in
    judging_more (still (goal.at.loop-passed-preserved c).In_default) _ _ _ c.loop-passed-test.true T.0 _ _ T.1 T.2

pub returns : goal.returns
returns c =
    judging_passed c.loop-passed.invariant c.loop-passed-test.false
