-- `read::any_item` meets its contract. Assumes nothing.
use mathlib.Core.Path.{◌≡◌, refl}
use Rattle.std.specs.Prelude.{Err}
use borrow.Author.Rules.{rules}
use Rattle.read.proofs.any_item.Goals as goal

pub judge_step-requires : goal.judge_step-requires
judge_step-requires c =
    let R = rw c.in-Some.is at c.requires.1 in
    let T = rw c.in_ok-step-in-Some.was at c.take_next.ensures in (R.0, T.short, T.whole, R.1)

pub returns-in-None : goal.returns-in-None
returns-in-None c =
    record { does = rw c.in-None.is c.lay_item.ensures }

pub returns-in_err-step-in-Some : goal.returns-in_err-step-in-Some
returns-in_err-step-in-Some c =
    let T = rw c.in_err-step-in-Some.was at c.take_next.ensures in
    let e : c.from_residual.result ≡ Err c.in_err-step-in-Some.field-0.0 = search rules in
    rw e (record { does = rw c.in-Some.is (record { step = _; told = T; kept = refl; ruled = λ earlier K. rw (← T.same) refl }) })

pub returns-in_ok-step-in-Some : goal.returns-in_ok-step-in-Some
returns-in_ok-step-in-Some c =
    let T = rw c.in_ok-step-in-Some.was at c.take_next.ensures in
    let J = c.judge_step in
    record { does = rw c.in-Some.is (record { step = _; told = T; kept = J.auto.room; ruled = rw T.same at J.ensures }) }
