-- `judge::judge` meets its contract. Assumes nothing.
use native.Mathlib.Omega.{arith}
use mathlib.Core.Path.{sym, ◌∙◌}
use Rattle.judge.specs.Judging.{Begins}
use Rattle.judge.proofs.Whole.{header_ours, header_foreign, fails_judges, begins_first, begins_ready, begins_refused, begins_foreign, first_then, first_short}
use Rattle.std.proofs.lemmas.Result.{err_from_is_err_and}
use Rattle.judge.proofs.judge.Goals as goal
use Rattle.judge.proofs.judge.Goals.{After-first_place-start}

-- the header is as the writing rules give it, and reading stands before the first record
begun : (c : After-first_place-start) → Begins c.args.file.now c.args.old 0 c.first_place-start.result c.args.before.now
begun c =
    begins_first _ _ c.requires.0 (header_ours _ _ c.requires.0 (sym c.our_header.ensures ∙ c.if-not-our_header.false)) _ _
    c.first_place-start.ensures c.requires.1

pub our_header-requires : goal.our_header-requires
our_header-requires c = c.requires.0

pub foreign-requires : goal.foreign-requires
foreign-requires c = c.requires.0.room.inside

pub returns-then-not-our_header : goal.returns-then-not-our_header
returns-then-not-our_header c =
    fails_judges c.args.file.now c.args.old c.requires.0 c.args.run c.foreign.result _ _ c.foreign.ensures
    (header_foreign _ _ c.requires.0 (sym c.our_header.ensures ∙ c.if-not-our_header.true))

pub judge_records-requires : goal.judge_records-requires
judge_records-requires c =
    begins_ready (begun (goal.at.judge_records-requires c).After-first_place-start) (λ i. omega (arith, c.type_inv.file i))

pub returns-in_err-one : goal.returns-in_err-one
returns-in_err-one c =
    let p = err_from_is_err_and c.from_residual.result c.from_residual.ensures.1 in
    rw (p.1, p.2) (begins_refused (begun (goal.at.returns-in_err-one c).After-first_place-start) _ _ c.in_err-one.ensures)

pub foreign-requires-in-Foreign : goal.foreign-requires-in-Foreign
foreign-requires-in-Foreign c =
    c.requires.0.room.inside

pub judge_run-requires : goal.judge_run-requires
judge_run-requires c =
    (first_then (begun (goal.at.judge_run-requires c).After-first_place-start) (rw c.in-Passed.is at c.in_ok-one.ensures), c.requires.2)

pub returns-in-Foreign : goal.returns-in-Foreign
returns-in-Foreign c =
    fails_judges c.args.file.now c.args.old c.requires.0 c.args.run c.foreign-in-Foreign.result _ _ c.foreign-in-Foreign.ensures
    (begins_foreign (begun (goal.at.returns-in-Foreign c).After-first_place-start) (rw c.in-Foreign.is at c.in_ok-one.ensures))

pub returns-in-End : goal.returns-in-End
returns-in-End c =
    let T = rw c.in-End.is at c.in_ok-one.ensures in
    first_short (begun (goal.at.returns-in-End c).After-first_place-start) c.args.run T.0 (omega (arith, T.1))

pub returns-in-Passed : goal.returns-in-Passed
returns-in-Passed c = c.judge_run.ensures
