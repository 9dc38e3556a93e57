-- `read::judge_names` meets its contract. Assumes nothing.
use native.Mathlib.Omega.{arith}
use Rattle.strict.proofs.Judging.{knows_none}
use Rattle.read.proofs.Whole.{begins_head}
use Rattle.read.proofs.Ruling.{counted, all_cleared}
use Rattle.read.proofs.judge_names.Goals as goal

pub course_of-course-requires : goal.course_of-course-requires
course_of-course-requires c = (c.requires.room.title_fits, c.requires.room.time_fits)

pub pass-total-requires : goal.pass-total-requires
pass-total-requires c =
    let e = c.empty-index.ensures in
    rw c.course_of-course.ensures
    (begins_head _ _ c.requires, record { ready = (knows_none _ _ e.0 e.1 e.2, omega (arith, c.requires.room.place_least)) })

pub slice_bounds-clear-end : goal.slice_bounds-clear-end
slice_bounds-clear-end c = rw c.cleared-end.ensures (omega arith)

pub slice_bounds-clear-end-2 : goal.slice_bounds-clear-end-2
slice_bounds-clear-end-2 c =
    rw c.cleared-end.ensures (counted c.pass-total.new.lent _ (omega arith))

pub returns : goal.returns
returns c =
    let P = rw c.course_of-course.ensures at c.pass-total.ensures in record { total = P.answer; room = rw c.cleared-end.ensures (all_cleared c.pass-total.new.lent _ _ (rw c.cleared-end.ensures at c.clear.ensures) P.lent) }
