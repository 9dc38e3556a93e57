-- `cases::run_read` meets its contract: the sheet that was read fits. Assumes nothing.
use native.Mathlib.Omega.{arith}
use mathlib.Core.Path.{sym}
use lib.Seq.{length-take-le}
use Rattle.read.proofs.Room.{read_room}
use Rattle.cases.proofs.run_read.Goals as goal

pub slice_bounds-sheet-end : goal.slice_bounds-sheet-end
slice_bounds-sheet-end c =
    let h = read_room _ _ _ _ _ c.in-Ok.ensures.answer in
    let k = c.read.auto.sheet in
    omega arith

pub slice_bounds-list-end : goal.slice_bounds-list-end
slice_bounds-list-end c =
    let h = read_room _ _ _ _ _ c.in-Ok.ensures.answer in
    let k = c.read.auto.sheet in
    sym (length-take-le _ _ (omega arith))
