-- `stamp` meets its contract: the header, then the time line. Assumes nothing.
use Rattle.std.proofs.lemmas.Result.{err_from_is_err_and}
use mathlib.Core.Path.{ap, ◌∙◌}
use Rattle.format.specs.Times.{stamp_opened, stamp_of}
use Rattle.timeline.proofs.Stamps.{stamp_whole}
use Rattle.timeline.proofs.stamp.Goals as goal

pub returns-in_err-head : goal.returns-in_err-head
unfolding stamp_of
returns-in_err-head c =
    let p = err_from_is_err_and c.from_residual.result c.from_residual.ensures.1 in
    rw (p.1, p.2) (ap stamp_opened c.in_err-head.ensures.same, tt)

pub returns : goal.returns
unfolding stamp_of
returns c =
    let l = c.line_stamp.ensures in
    let h = c.in_ok-head.ensures in
    (l.same ∙ (stamp_whole _ _ _ _ _ _ h.room ∙ ap stamp_opened h.same), l.room)
