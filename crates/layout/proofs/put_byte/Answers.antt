-- `layout::put_byte` meets its contract. Assumes nothing.
use Rattle.layout.proofs.Laws.{byte_laid}
use Rattle.layout.proofs.put_byte.Goals as goal

pub returns : goal.returns
returns c = byte_laid _ _ _ c.requires
