-- `step::peek` meets its contract. Assumes nothing.
use native.Mathlib.Omega.{arith}
use mathlib.Core.Path.{sym, ◌∙◌}
use borrow.Author.Rules.{rules}
use Rattle.item.proofs.Steps.{comes_error}
use Rattle.step.proofs.Laws.{tells_room, none_among, none_faulty, peek_short, peek_long, peek_fits}
use Rattle.std.proofs.lemmas.Result.{err_from_is_err_and}
use Rattle.step.proofs.peek.Goals as goal

pub returns-in_default-kept : goal.returns-in_default-kept
returns-in_default-kept c =
    let R = rw c.in-Relabel.is at c.in_ok-it.ensures in
    peek_short _ _ _ c.args.len _ c.requires.1 c.requires.0 _ _ _ _ _ R (sym c.kept_of-kept.ensures.0 ∙ c.in_default-kept.is)

pub overflow_sub-keep : goal.overflow_sub-keep
overflow_sub-keep c =
    let W = rw c.in-Some.is at c.kept_of-kept.ensures.1 in
    omega (arith, W, c.requires.0)

pub returns-then-keep-count : goal.returns-then-keep-count
returns-then-keep-count c =
    let R = rw c.in-Relabel.is at c.in_ok-it.ensures in
    let W = rw c.in-Some.is at c.kept_of-kept.ensures.1 in
    peek_long _ _ _ c.args.len _ c.requires.1 c.requires.0 _ _ _ _ _ R _ (sym c.kept_of-kept.ensures.0 ∙ c.in-Some.is) (omega (arith, W, c.requires.0)) c.if-keep-count.true

pub returns-in-Error : goal.returns-in-Error
returns-in-Error c =
    tells_room _ _ _ (comes_error _ _ _ c.args.len _ c.requires.1 c.requires.0 _ (rw c.in-Error.is at c.in_ok-it.ensures))

pub returns-else-keep-count : goal.returns-else-keep-count
returns-else-keep-count c =
    let R = rw c.in-Relabel.is at c.in_ok-it.ensures in
    let W = rw c.in-Some.is at c.kept_of-kept.ensures.1 in
    peek_fits _ _ _ c.args.len _ c.requires.1 c.requires.0 _ _ _ _ _ R _ _ (sym c.kept_of-kept.ensures.0 ∙ c.in-Some.is) W c.if-keep-count.false c.made_step.ensures.0

pub returns-in_default : goal.returns-in_default
returns-in_default c =
    none_among _ _ _ c.in_ok-it.it (search rules) c.in_ok-it.ensures

pub returns-in_err-it : goal.returns-in_err-it
returns-in_err-it c =
    let p = err_from_is_err_and c.from_residual.result c.from_residual.ensures.1 in
    rw (p.1, p.2) (none_faulty _ _ _ _ c.in_err-it.ensures)
