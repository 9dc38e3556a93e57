-- `edit::put_after` meets its contract. Assumes nothing.
use native.Mathlib.Omega.{arith}
use mathlib.Core.Path.{sym}
use lib.Seq.{length-take-le}
use Rattle.edit.proofs.put_after.Goals as goal

pub slice_bounds-put_next-end : goal.slice_bounds-put_next-end
slice_bounds-put_next-end c =
    let F = c.requires.0 in
    sym (length-take-le _ _ (omega (arith, F.label_short, F.label_whole)))

pub put_next-requires : goal.put_next-requires
put_next-requires c =
    let l = length-take-le c.args.pen.len c.args.last.now (omega (arith, c.requires.0.label_short, c.requires.0.label_whole)) in
    (c.requires.1, omega (arith, l, c.requires.0.label_short), c.requires.2)
