-- `judge::take_end` meets its contract. Assumes nothing.
use native.Mathlib.Omega.{arith}
use borrow.Author.Rules.{part_to_end}
use mathlib.Core.Path.{sym, ◌∙◌}
use lib.Seq.{length-take-le}
use Rattle.judge.proofs.One.{front_of_lem}
use Rattle.judge.proofs.take_end.Goals as goal

pub slice_bounds-same_bytes-end-3 : goal.slice_bounds-same_bytes-end-3
slice_bounds-same_bytes-end-3 c =
    let P = c.put_closing-size.ensures in
    sym (length-take-le _ _ (omega (arith, P.most, P.kept, c.requires.1)))

pub returns : goal.returns
returns c =
    let P = c.put_closing-size.ensures in
    let f = front_of_lem P (omega (arith, P.most, c.requires.1)) in
    let e = c.same_bytes.ensures in
    (rw (part_to_end, f) at e, P.kept ∙ c.requires.1)
