-- `codes::put_line` meets its contract. Assumes nothing.
use native.Mathlib.Omega.{arith}
use mathlib.Core.Path.{sym, ◌∙◌}
use Rattle.format.specs.Bytes.{to_le32}
use Rattle.format.specs.Codes.{label_codes, line_codes}
use Rattle.format.proofs.Basics.{pick_true, pick_false}
use Rattle.format.proofs.WritingLaws.{common_le}
use Rattle.part.proofs.Laying.{lays_as, lays_within, lays_then}
use Rattle.codes.proofs.put_line.Goals as goal

pub returns-then-s : goal.returns-then-s
unfolding line_codes to_le32
returns-then-s c =
    lays_within
    (lays_as (lays_then c.put-next.ensures
    (rw c.point_bytes-place.ensures at
    c.put.ensures))
    (sym (pick_true _ _ (sym c.shared-s.ensures.1
    ∙ c.if-s.true))))
    4120 (omega arith)

pub put_label-end-requires : goal.put_label-end-requires
put_label-end-requires c =
    let h = common_le c.args.last.now
    c.args.name.now in
    let e = c.shared-s.ensures.0 in (
      omega (
        arith,
        c.put-next-2.ensures.most,
        c.requires,
      ),
      omega (arith, c.requires),
      omega (arith, c.requires),
      omega (arith, h, e),
      omega (arith, h, e),
    )

pub returns : goal.returns
unfolding line_codes to_le32 label_codes
returns c =
    lays_as (lays_then c.put-next-2.ensures
    (lays_then (rw c.shared-s.ensures.0 at c.put_label-end.ensures)
    (rw c.point_bytes-place.ensures at c.put-2.ensures)))
    (sym (pick_false _ _ (sym c.shared-s.ensures.1 ∙ c.if-s.false)))
