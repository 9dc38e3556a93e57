-- `table::hang` meets its contract. Assumes nothing.
use Rattle.table.specs.Room.{hung_at}
use Rattle.table.proofs.hang.Goals as goal

pub returns : goal.returns
unfolding hung_at
returns c =
    let h = c.hash_of-h.ensures in
    let b = c.chain-b.ensures.0 in
    rw (c.lay-2.ensures, c.lay.ensures, c.le24_bytes-next.ensures, c.le24_bytes-link.ensures, c.head_spot-to.ensures, c.head_of-first.ensures.0, b, h)
