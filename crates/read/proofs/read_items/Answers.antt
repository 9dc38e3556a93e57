-- `read::read_items` meets its contract. Assumes nothing.
use Rattle.read.proofs.Whole.{settled_reads}
use Rattle.read.proofs.read_items.Goals as goal

pub settle-requires : goal.settle-requires
settle-requires c =
    (c.requires, λ e. c.judged-total.ensures.0)

pub returns : goal.returns
returns c =
    let J = c.judged-total.ensures in
    settled_reads _ _ c.requires _ J.0 _ _ _ (rw J.1 at c.settle.ensures)
