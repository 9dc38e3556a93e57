-- `judge::judge_rest` meets its contract. Assumes nothing.
use mathlib.Core.Path.{◌≡◌}
use lib.ListN.{length}
use native.Mathlib.Omega.{arith}
use Rattle.judge.proofs.Whole.{same_state_lem, ready_copied, fails_judges, begins_ready, begins_refused, begins_foreign, begins_cuts, never_all}
use borrow.Author.Rules.{rules}
use Rattle.std.proofs.lemmas.Result.{err_from_is_err_and}
use Rattle.judge.proofs.judge_rest.Goals as goal

pub copy_label-len-requires : goal.copy_label-len-requires
copy_label-len-requires c =
    let i = c.requires.walks.inside in
    let w : length c.blank-last.result.bytes ≡ 4096 = search rules in
    (i.label_short, i.label_whole, w)

pub judge_records-requires : goal.judge_records-requires
judge_records-requires c =
    ready_copied c.args.back c.args.behind.now _ _ c.copy_label-len.ensures c.args.file.now
    (begins_ready c.requires (λ i. omega (arith, c.type_inv.file i)))

pub foreign-requires : goal.foreign-requires
foreign-requires c =
    c.requires.opens.room.inside

pub foreign-requires-in-Passed : goal.foreign-requires-in-Passed
foreign-requires-in-Passed c =
    c.requires.opens.room.inside

pub returns-in-Foreign : goal.returns-in-Foreign
returns-in-Foreign c =
    let T = rw c.in-Foreign.is at c.in_ok-three.ensures in
    λ b B. fails_judges c.args.file.now c.args.old c.requires.opens c.args.run
    c.foreign.result _ _ c.foreign.ensures (begins_foreign c.requires
    (rw (same_state_lem c.args.back c.args.behind.now _ _ c.copy_label-len.ensures) at T))

pub returns-in-End : goal.returns-in-End
returns-in-End c =
    let T = rw c.in-End.is at c.in_ok-three.ensures in
    λ b B. begins_cuts c.args.run B c.requires
    (rw (same_state_lem c.args.back c.args.behind.now _ _ c.copy_label-len.ensures) at T.0)

pub returns-in-Passed : goal.returns-in-Passed
returns-in-Passed c =
    let T = rw c.in-Passed.is at c.in_ok-three.ensures in
    λ b C. absurd (never_all (omega (arith, c.requires.walks.few, c.requires.opens.room.place_least)) T)

pub returns-in_err-three : goal.returns-in_err-three
returns-in_err-three c =
    let p = err_from_is_err_and c.from_residual.result c.from_residual.ensures.1 in
    λ b B. rw (p.1, p.2) (begins_refused c.requires _ _
    (rw (same_state_lem c.args.back c.args.behind.now _ _ c.copy_label-len.ensures) at c.in_err-three.ensures))
