-- `step::opened` meets its contract. Assumes nothing.
use mathlib.Core.Path.{ap}
use Rattle.format.specs.Answers.{open_outcome}
use Rattle.std.proofs.lemmas.Result.{err_from_is_err_and}
use Rattle.step.proofs.opened.Goals as goal

pub returns-in_err-head : goal.returns-in_err-head
returns-in_err-head c =
    let p = err_from_is_err_and c.from_residual.result c.from_residual.ensures.1 in
    rw (p.1, p.2) (ap open_outcome c.in_err-head.ensures.same)

pub returns : goal.returns
returns c = ap open_outcome c.in_ok-head.ensures.same
