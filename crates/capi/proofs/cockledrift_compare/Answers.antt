-- `capi::cockledrift_compare` meets its contract. Assumes nothing.
use Rattle.capi.proofs.cockledrift_compare.Goals as goal

pub returns : goal.returns
returns c = rw (c.compare-l.ensures, c.later_part-line.ensures) at c.tell_later.ensures
