-- `v7::put_xsect` meets its contract. Assumes nothing.
use mathlib.Core.Path.{sym, ◌∙◌}
use Rattle.format.specs.Bytes.{to_le16, to_le32}
use Rattle.format.specs.V7Codes.{v7_section_codes}
use Rattle.format.proofs.Basics.{pick_true, pick_false}
use Rattle.part.proofs.Laying.{lays_as, lays_within}
use native.Mathlib.Omega.{arith}
use Rattle.v7.proofs.put_xsect.Goals as goal

pub returns-then-all_short : goal.returns-then-all_short
unfolding v7_section_codes to_le16
returns-then-all_short c =
    lays_within (lays_as (rw c.short_bytes-bytes.ensures at c.put_labelled.ensures) (sym
    (pick_true _ _ (sym c.all_short.ensures
    ∙ c.if-all_short.true)))) 4373 (omega arith)

pub returns : goal.returns
unfolding v7_section_codes to_le32
returns c =
    lays_within (lays_as (rw c.long_bytes-bytes.ensures at c.put_labelled-2.ensures) (sym
    (pick_false _ _ (sym c.all_short.ensures
    ∙ c.if-all_short.false)))) 4373 (omega arith)
