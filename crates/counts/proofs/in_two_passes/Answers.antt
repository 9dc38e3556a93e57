-- `counts::in_two_passes` meets its contract. Assumes nothing.
use Rattle.std.proofs.Common.{rules, refl, [], Err, ◌≡◌}
use Rattle.counts.proofs.Files.{passes_refused, passes_small, passes_done}
use Rattle.counts.proofs.in_two_passes.Goals as goal

pub returns-in_err-done : goal.returns-in_err-done
returns-in_err-done g c = λ w h x P.
    let p = P [] c.pass.new.arg2 c.pass.result (record { shown = _; shows = refl; left = _; met = c.pass.ensures; leaves = refl }) in
    let e : c.from_residual.result ≡ Err c.in_err-done.field-0.0 = search rules in
    rw e (passes_refused w h x c.args.out.now c.pass.new.arg2 c.pass.result p.kept p.answer c.in_err-done.was)

pub returns-then-out-done : goal.returns-then-out-done
returns-then-out-done g c = λ w h x P.
    let p = P [] c.pass.new.arg2 c.pass.result (record { shown = _; shows = refl; left = _; met = c.pass.ensures; leaves = refl }) in
    rw c.at.ensures
    (passes_small w h x c.args.out.now c.pass.new.arg2 c.pass.result p.kept p.answer c.in_ok-done.was c.if-out-done.true)

pub returns : goal.returns
returns g c = λ w h x P.
    let p = P [] c.pass.new.arg2 c.pass.result (record { shown = _; shows = refl; left = _; met = c.pass.ensures; leaves = refl }) in
    let q = P _ c.pass-2.new.arg2 c.pass-2.result (record { shown = _; shows = refl; left = _; met = c.pass-2.ensures; leaves = refl }) in
    passes_done w h x c.args.out.now c.pass.new.arg2 c.pass.result p.kept p.answer c.in_ok-done.was c.if-out-done.false q
