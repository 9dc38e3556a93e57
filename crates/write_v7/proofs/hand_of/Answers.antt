-- `write_v7::hand_of` meets its contract. Assumes nothing.
use Rattle.write_v7.proofs.hand_of.Goals as goal

pub returns : goal.returns
returns c = rw c.mark_of-mark.ensures
