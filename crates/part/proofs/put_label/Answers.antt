-- `part::put_label` meets its contract. Assumes nothing.
use native.Mathlib.Omega.{arith}
use borrow.Author.Rules.{part_to_end}
use lib.ListN.{length-drop}
use Rattle.part.proofs.Laying.{lays_within, lays_then}
use Rattle.part.proofs.put_label.Goals as goal

pub put-requires : goal.put-requires
put-requires c = (
  omega (arith, c.put_part-next.ensures.most, c.requires),
  simp (part_to_end, length-drop) (omega (arith, c.requires)),
)

pub returns : goal.returns
returns c =
    lays_within (lays_then c.put_part-next.ensures
    (simp part_to_end at c.put.ensures)) 4107
    (simp length-drop (omega (arith, c.requires)))
