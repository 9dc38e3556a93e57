-- `codes::put_xsect` meets its contract. Assumes nothing.
use native.Mathlib.Omega.{arith}
use mathlib.Core.Path.{sym, ◌∙◌}
use Rattle.format.specs.Bytes.{to_le16, to_le32}
use Rattle.format.specs.Codes.{label_codes, section_codes}
use Rattle.format.proofs.Basics.{pick_true, pick_false}
use Rattle.format.proofs.WritingLaws.{kept_shares}
use Rattle.part.proofs.Laying.{lays_as, lays_within, lays_then}
use Rattle.codes.proofs.put_xsect.Goals as goal

pub put_label-b-requires : goal.put_label-b-requires
put_label-b-requires c =
    let h = kept_shares c.args.last.now
    c.args.name.now in
    let e = c.kept_bytes-kept.ensures in
    let g = c.requires.2.label_fits in (
      omega (
        arith,
        c.put-a.ensures.most,
        c.requires,
      ),
      omega
          (arith, c.requires),
      omega (arith, g),
      omega
          (arith, h.first, e),
      omega (arith, h.second, e),
    )

pub returns-then-all_short : goal.returns-then-all_short
unfolding section_codes to_le16 label_codes
returns-then-all_short c =
    lays_within
    (lays_as (lays_then c.put-a.ensures (lays_then
    (rw c.kept_bytes-kept.ensures at c.put_label-b.ensures) (rw c.short_bytes-bytes.ensures at
    c.put.ensures)))
    (sym (pick_true _ _ (sym
    c.all_short.ensures ∙ c.if-all_short.true))))
    4124 (omega arith)

pub put_label-b-requires-2 : goal.put_label-b-requires-2
put_label-b-requires-2 c =
    let h = kept_shares c.args.last.now
    c.args.name.now in
    let e = c.kept_bytes-kept.ensures in
    let g = c.requires.2.label_fits in (
      omega (
        arith,
        c.put-a-2.ensures.most,
        c.requires,
      ),
      omega
          (arith, c.requires),
      omega (arith, g),
      omega
          (arith, h.first, e),
      omega (arith, h.second, e),
    )

pub returns : goal.returns
unfolding section_codes to_le32 label_codes
returns c =
    lays_as (lays_then c.put-a-2.ensures (lays_then
    (rw c.kept_bytes-kept.ensures at c.put_label-b-2.ensures) (rw c.long_bytes-bytes.ensures at
    c.put-2.ensures)))
    (sym (pick_false _ _ (sym
    c.all_short.ensures ∙ c.if-all_short.false)))
