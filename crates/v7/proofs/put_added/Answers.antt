-- `v7::put_added` meets its contract. Assumes nothing.
use native.Mathlib.Omega.{arith}
use Rattle.part.proofs.Laying.{lays_within, lays_then}
use borrow.Author.Rules.{part_to_end}
use lib.ListN.{length-drop}
use Rattle.format.specs.V7Codes.{added_codes}
use Rattle.v7.proofs.put_added.Goals as goal

pub put-requires : goal.put-requires
put-requires c =
    (omega (arith, c.put_length-next.ensures.most, c.requires), simp (part_to_end, length-drop) (omega (arith, c.requires)))

pub returns : goal.returns
unfolding added_codes
returns c =
    lays_within (lays_then c.put_length-next.ensures (simp part_to_end at
    c.put.ensures)) 4099 (simp length-drop (omega (arith, c.requires)))
