-- `layout::lay_record` meets its contract. Assumes nothing.
use native.Mathlib.Omega.{arith}
use mathlib.Core.Path.{◌≡◌, ◌∙◌, sym}
use lib.ListN.{length, take}
use lib.Seq.{length-take-le}
use Rattle.format.specs.Sheet.{sheet_version, layout}
use Rattle.format.specs.Fields.{record_of}
use Rattle.format.proofs.SheetLaws.{layout_size}
use Rattle.layout.proofs.Laws.{size_some, lay_none, lay_some}
use Rattle.layout.proofs.lay_record.Goals as goal

pub returns-then-sheet-at : goal.returns-then-sheet-at
returns-then-sheet-at c =
    let l = take c.args.len c.args.bytes.now in
    lay_none _ _ _ (omega (arith, layout_size c.args.fields l, size_some c.args.fields (length l), c.if-sheet-at.true))

pub returns-then-sheet-at-2 : goal.returns-then-sheet-at-2
returns-then-sheet-at-2 c = lay_none _ _ _ (omega (
  arith,
  (let it : length (layout sheet_version (record_of c.args.fields (take
      c.args.len c.args.bytes.now))) ≡ c.record_size-n.result = let t : length (take c.args.len c.args.bytes.now) ≡ c.args.len = length-take-le c.args.len c.args.bytes.now (omega (arith, c.requires)) in
      layout_size c.args.fields (take c.args.len c.args.bytes.now) ∙ rw t (sym c.record_size-n.ensures.0) in it),
  c.if-sheet-at-2.true,
))

pub returns : goal.returns
returns c =
    lay_some _ _ _ (omega (
      arith,
      (let it : length (layout sheet_version (record_of c.args.fields (take
          c.args.len c.args.bytes.now))) ≡ c.record_size-n.result = let t : length (take c.args.len c.args.bytes.now) ≡ c.args.len = length-take-le c.args.len c.args.bytes.now (omega (arith, c.requires)) in
          layout_size c.args.fields (take c.args.len c.args.bytes.now) ∙ rw t (sym c.record_size-n.ensures.0) in it),
      c.if-sheet-at-2.false,
    )) _
    c.put_record.ensures
