-- `summary::update` meets its contract. Assumes nothing.
use Rattle.std.proofs.lemmas.Result.{err_from_is_err_and}
use Rattle.std.proofs.Common.{◌+◌, ◌≤◌, arith}
use Rattle.format.specs.Summary.{update_outcome}
use Rattle.summary.proofs.Renewing.{update_past, update_flawed}
use Rattle.summary.proofs.update.Goals as goal

pub returns-then-n-first : goal.returns-then-n-first
returns-then-n-first c =
    let z = update_past c.args.words.now c.args.new.now c.args.records c.args.first c.args.count (omega (arith, c.if-n-first.true)) in
    record { answer = rw c.at.ensures z.0; words = z.1 }

pub returns-then-n-first-2 : goal.returns-then-n-first-2
returns-then-n-first-2 c =
    let z = update_past c.args.words.now c.args.new.now c.args.records c.args.first c.args.count (omega (arith, c.if-n-first-2.true, c.if-n-first.false)) in
    record { answer = rw c.at-then-n-first-2.ensures z.0; words = z.1 }

pub update_marks-requires : goal.update_marks-requires
update_marks-requires c =
    (omega arith, omega (arith, c.if-n-first-2.false, c.if-n-first.false), c.in_ok-added.ensures)

pub returns-in_err-added : goal.returns-in_err-added
returns-in_err-added c =
    let p = err_from_is_err_and c.from_residual.result c.from_residual.ensures.1 in
    let h : c.args.first + c.args.count ≤ c.args.records = omega (arith, c.if-n-first-2.false, c.if-n-first.false) in
    let z = update_flawed c.args.words.now c.args.new.now c.args.records c.args.first c.args.count h _ _ c.in_err-added.ensures in
    record { answer = rw (p.1, p.2) z.0; words = z.1 }

pub returns : goal.returns
unfolding update_outcome
returns c = c.update_marks.ensures
