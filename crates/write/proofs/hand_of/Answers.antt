use Rattle.write.proofs.hand_of.Goals as goal

pub returns : goal.returns
returns c = rw c.mark_of-mark.ensures
