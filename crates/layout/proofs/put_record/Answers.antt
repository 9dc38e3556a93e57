-- `layout::put_record` meets its contract. Assumes nothing.
use Prim.Native.Nat.{ℕ, ◌+◌, ◌≤◌}
use mathlib.Core.Path.{◌≡◌, sym, ap, ◌∙◌}
use mathlib.Core.List.{List}
use native.Mathlib.Omega.{arith}
use lib.ListN.{length, take}
use lib.Seq.{length-take-le}
use Rattle.format.specs.Bytes.{over}
use Rattle.format.specs.Sheet.{sheet_version, layout}
use Rattle.format.specs.Fields.{record_of, record_size}
use Rattle.format.specs.declared.Fields.{Fields}
use Rattle.format.proofs.SheetLaws.{layout_size}
use Rattle.wire.specs.Laid.{laid}
use Rattle.layout.proofs.Laws.{layout_length, record_over, error_parts}
use Rattle.layout.specs.Fronts.{front_of, front_size, label_of}
use borrow.Author.Rules.{rules}
use Rattle.layout.proofs.put_record.Goals as goal

-- a lemma over plain values: f is what is put, and the fields are g
fits : (S : List ℕ) (n : ℕ) (f g : Fields) → record_size f n ≤ length S → f ≡ g → record_size g n ≤ length S
fits S n f g h e = rw e at h

put : (S bytes : List ℕ) (n : ℕ) (f g : Fields) → n ≤ length bytes → record_size f n ≤ length S → f ≡ g
    → (x z : List ℕ) → label_of (record_of g (take n bytes)) ≡ take n bytes → x ≡ over (front_of (record_of g (take n bytes)) n) S
    → z ≡ laid x (front_size (record_of g (take n bytes))) (take n bytes) → z ≡ over (layout sheet_version (record_of f (take n bytes))) S
put S bytes n f g b fs e x z l ex ez =
    let label : List ℕ = take n bytes in
    let r = record_of g label in
    let w : length label ≡ n = length-take-le n bytes b in
    let h : record_size g n ≡ front_size r + n = (rw w at (sym (layout_size g label))) ∙ layout_length r label n l w in
    let fit : record_size g n ≤ length S = fits S n f g fs e in
    record_over r label S x z n l w ex ez (omega (arith, h, fit)) ∙ ap (λ (f : Fields). over (layout sheet_version (record_of f label)) S) (sym e)

pub put_leg-requires : goal.put_leg-requires
put_leg-requires c =
    search (rules, fits c.args.out.now c.args.len c.args.fields _ (search rules) c.in-Leg.is)

pub put_label-requires : goal.put_label-requires
put_label-requires c =
    search (rules, fits c.args.out.now c.args.len c.args.fields _ (search rules) c.in-Leg.is)

pub put_station-requires : goal.put_station-requires
put_station-requires c =
    search (rules, fits c.args.out.now c.args.len c.args.fields _ (search rules) c.in-Station.is)

pub put_label-requires-in-Station : goal.put_label-requires-in-Station
put_label-requires-in-Station c =
    search (rules, fits c.args.out.now c.args.len c.args.fields _ (search rules) c.in-Station.is)

pub put_section-requires : goal.put_section-requires
put_section-requires c =
    search (rules, fits c.args.out.now c.args.len c.args.fields _ (search rules) c.in-Section.is)

pub put_label-requires-in-Section : goal.put_label-requires-in-Section
put_label-requires-in-Section c =
    search (rules, fits c.args.out.now c.args.len c.args.fields _ (search rules) c.in-Section.is)

pub put_error-requires : goal.put_error-requires
put_error-requires c =
    fits c.args.out.now c.args.len c.args.fields _ (search rules) c.in-Error.is

pub returns-in-Leg : goal.returns-in-Leg
returns-in-Leg c =
    search (rules, put c.args.out.now c.args.bytes.now c.args.len c.args.fields _ (omega (arith, c.requires)) (search rules) c.in-Leg.is)

pub returns-in-Station : goal.returns-in-Station
returns-in-Station c =
    search (rules, put c.args.out.now c.args.bytes.now c.args.len c.args.fields _ (omega (arith, c.requires)) (search rules) c.in-Station.is)

pub returns-in-Section : goal.returns-in-Section
returns-in-Section c =
    search (rules, put c.args.out.now c.args.bytes.now c.args.len c.args.fields _ (omega (arith, c.requires)) (search rules) c.in-Section.is)

pub returns-in-Error : goal.returns-in-Error
returns-in-Error c =
    c.put_error.ensures ∙ rw (error_parts, c.in-Error.is)
