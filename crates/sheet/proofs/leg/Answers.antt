-- `sheet::leg` meets its contract. Assumes nothing.
use borrow.Author.Rules.{part_to_end}
use Rattle.sheet.proofs.leg.Goals as goal

pub returns : goal.returns
returns c =
    let e = simp part_to_end at c.point.ensures in
    let f = simp part_to_end at c.point-2.ensures in
    rw (e, f)
