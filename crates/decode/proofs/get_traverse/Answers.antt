-- `decode::get_traverse` meets its contract. Assumes nothing.
use borrow.Author.Rules.{part_to_end}
use Rattle.decode.proofs.get_traverse.Goals as goal

pub returns : goal.returns
returns c =
    let e2 = simp part_to_end at c.get_le32-total.ensures.0 in
    let e3 = simp part_to_end at c.get_le32-e.ensures.0 in
    let e4 = simp part_to_end at c.get_le32-h.ensures.0 in
    let e5 = simp part_to_end at c.get_le32-v.ensures.0 in
    simp (c.get_le32-legs.ensures.0, e2, e3, e4, e5)
