-- `viewer::viewer_legs` meets its contract. Assumes nothing.
use Rattle.std.proofs.lemmas.Result.{err_from_is_err_and}
use mathlib.Core.Path.{sym, ◌∙◌}
use Rattle.viewer.specs.Viewing.{Boxed}
use Rattle.viewer.proofs.Whole.{boxed_good, boxed_count, none_due, refused_due, far_due, all_due}
use Rattle.viewer.proofs.viewer_legs.Goals.{In-Ok}
use Rattle.viewer.proofs.viewer_legs.Goals as goal

abbrev boxed : (c : In-Ok) → Boxed c.args.sheet.now c.in-Ok.all.least c.in-Ok.all.greatest
boxed c = record { legs = c.in-Ok.all.legs; same = sym c.in-Ok.ensures }

pub returns-then-refusal-number : goal.returns-then-refusal-number
returns-then-refusal-number c =
    let z = none_due c.args.sheet.now c.args.origin c.args.out.now _ _ c.in-Err.ensures (c.if-refusal-number.true ∙ c.number.ensures) in
    record { answer = z.0; numbers = z.1.0; exact = z.1.1 }

pub returns-in-Err : goal.returns-in-Err
returns-in-Err c =
    let z = refused_due c.args.sheet.now c.args.origin c.args.out.now c.in-Err.refusal.number c.in-Err.refusal.place
    c.in-Err.ensures (λ e. c.if-refusal-number.false (e ∙ sym c.number.ensures)) in
    record { answer = z.0; numbers = z.1.0; exact = z.1.1 }

pub judge-requires : goal.judge-requires
judge-requires c = boxed (goal.at.judge-requires c).In-Ok

pub returns-in_err-judge : goal.returns-in_err-judge
returns-in_err-judge c =
    let p = err_from_is_err_and c.from_residual.result c.from_residual.ensures.1 in
    let z = far_due c.args.sheet.now c.args.origin c.args.out.now (boxed (goal.at.returns-in_err-judge c).In-Ok) _ _ c.in_err-judge.ensures in
    record { answer = rw (p.1, p.2) z.0; numbers = z.1.0; exact = z.1.1 }

pub show-requires : goal.show-requires
show-requires c =
    let B = boxed (goal.at.show-requires c).In-Ok in
    record {
      within = record { good = boxed_good B; near = sym c.in_ok-judge.ensures };
      count = boxed_count B;
    }

pub returns : goal.returns
returns c =
    let z = all_due c.args.sheet.now c.args.origin c.args.out.now _ _ (c.show.ensures.answer, c.show.ensures.numbers) in
    record { answer = z.0; numbers = z.1.0; exact = z.1.1 }
