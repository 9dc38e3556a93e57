-- `layout::put_kept` meets its contract. Assumes nothing.
use native.Mathlib.Omega.{arith}
use mathlib.Core.Path.{sym}
use lib.ListN.{length-take, length-drop}
use lib.Seq.{length-take-le}
use Rattle.layout.proofs.Laws.{part_laid}
use Rattle.layout.proofs.put_kept.Goals as goal

pub slice_bounds-copy_words-end : goal.slice_bounds-copy_words-end
slice_bounds-copy_words-end c =
    sym (length-take-le c.args.len c.args.bytes.now (omega (arith, c.requires)))

pub copy_words-requires : goal.copy_words-requires
copy_words-requires c =
    simp (length-take, length-drop) (omega (arith, c.requires))

pub returns : goal.returns
returns c =
    part_laid _ _ _ _ (omega (arith, c.requires)) c.copy_words.ensures
