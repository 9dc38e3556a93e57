-- `decode::long_dimensions` meets its contract. Assumes nothing.
use borrow.Author.Rules.{part_to_end}
use Rattle.decode.proofs.long_dimensions.Goals as goal

pub returns : goal.returns
returns c =
    let e2 = simp part_to_end at c.get_le32-right.ensures.0 in
    let e3 = simp part_to_end at c.get_le32-up.ensures.0 in
    let e4 = simp part_to_end at c.get_le32-down.ensures.0 in
    simp (c.get_le32-left.ensures.0, e2, e3, e4)
