-- `decode::get_point` meets its contract. Assumes nothing.
use borrow.Author.Rules.{part_to_end}
use Rattle.decode.proofs.get_point.Goals as goal

pub returns : goal.returns
returns c =
    let e2 = simp part_to_end at c.get_le32-y.ensures.0 in
    let e3 = simp part_to_end at c.get_le32-z.ensures.0 in
    simp (c.get_le32-x.ensures.0, e2, e3)
