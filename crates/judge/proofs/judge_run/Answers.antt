-- `judge::judge_run` meets its contract. Assumes nothing.
use native.Mathlib.Omega.{arith}
use Rattle.judge.proofs.Whole.{same_state_lem, ready_copied, fails_judges, begins_ready, begins_refused, begins_foreign, begins_then, begins_short}
use Rattle.std.proofs.lemmas.Result.{err_from_is_err_and}
use Rattle.judge.proofs.judge_run.Goals as goal

pub copy_label-len-requires : goal.copy_label-len-requires
copy_label-len-requires c =
    let i = c.requires.0.walks.inside in
    (i.label_short, i.label_whole, c.requires.1)

pub judge_records-requires : goal.judge_records-requires
judge_records-requires c =
    ready_copied c.args.front c.args.before.now _ _ c.copy_label-len.ensures c.args.file.now
    (begins_ready c.requires.0 (λ i. omega (arith, c.type_inv.file i)))

pub foreign-requires : goal.foreign-requires
foreign-requires c =
    c.requires.0.opens.room.inside

pub overflow_add-result : goal.overflow_add-result
overflow_add-result c =
    let T = rw c.in-End.is at c.in_ok-two.ensures in
    omega (arith, c.requires.0.walks.few, c.requires.0.walks.inside.place_inside, c.requires.0.opens.room.file_fits, T.0.few)

pub judge_rest-requires : goal.judge_rest-requires
judge_rest-requires c =
    let T = rw c.in-Passed.is at c.in_ok-two.ensures in
    begins_then c.requires.0
    (rw (same_state_lem c.args.front c.args.before.now _ _ c.copy_label-len.ensures) at T)

pub returns-in-Foreign : goal.returns-in-Foreign
returns-in-Foreign c =
    let T = rw c.in-Foreign.is at c.in_ok-two.ensures in
    fails_judges c.args.file.now c.args.old c.requires.0.opens c.args.run c.foreign.result _ _ c.foreign.ensures
    (begins_foreign c.requires.0 (rw (same_state_lem c.args.front c.args.before.now _ _ c.copy_label-len.ensures) at T))

pub returns-in-End : goal.returns-in-End
returns-in-End c =
    let T = rw c.in-End.is at c.in_ok-two.ensures in
    begins_short c.requires.0 c.args.run
    (rw (same_state_lem c.args.front c.args.before.now _ _ c.copy_label-len.ensures) at T.0)
    (omega (arith, T.1))

pub returns-in-Passed : goal.returns-in-Passed
returns-in-Passed c =
    c.judge_rest.ensures _ c.requires.0

pub returns-in_err-two : goal.returns-in_err-two
returns-in_err-two c =
    let p = err_from_is_err_and c.from_residual.result c.from_residual.ensures.1 in
    rw (p.1, p.2) (begins_refused c.requires.0 _ _
    (rw (same_state_lem c.args.front c.args.before.now _ _ c.copy_label-len.ensures) at c.in_err-two.ensures))
