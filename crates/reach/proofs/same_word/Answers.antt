-- `reach::same_word` meets its contract. Assumes nothing.
use Rattle.reach.proofs.Words.{words_same}
use Rattle.reach.proofs.same_word.Goals as goal

pub returns : goal.returns
returns c =
    words_same _ _ _ _ c.get_le64-x.type_inv c.get_le64-y.type_inv c.get_le64-x.ensures c.get_le64-y.ensures
