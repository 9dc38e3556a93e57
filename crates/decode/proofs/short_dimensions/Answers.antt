-- `decode::short_dimensions` meets its contract. Assumes nothing.
use borrow.Author.Rules.{part_to_end}
use Rattle.decode.proofs.short_dimensions.Goals as goal

pub returns : goal.returns
returns c =
    let e2 = simp part_to_end at c.get_short-right.ensures in
    let e3 = simp part_to_end at c.get_short-up.ensures in
    let e4 = simp part_to_end at c.get_short-down.ensures in
    simp (c.get_short-left.ensures, e2, e3, e4)
