use native.Mathlib.Omega.{arith}
use mathlib.Core.Path.{◌≡◌, sym, ◌∙◌}
use borrow.Author.Rules.{part_to_end}
use lib.ListN.{drop, length-drop}
use Rattle.format.specs.Bytes.{be32}
use Rattle.format.specs.Items.{dimensions_of}
use Rattle.format.specs.Codes.{all_short}
use Rattle.plain.proofs.Leads.{Front, front_of, DatedSection, narrow_leads, wide_leads}
use Rattle.plain.proofs.section_head.Goals as goal

pub slice_bounds-get_le64-count : goal.slice_bounds-get_le64-count
slice_bounds-get_le64-count c =
    omega (arith, ((let it : Front c.args.s.now 3 23 = front_of (λ i. (c.type_inv.s i).fits) c.requires c.label_fits.ensures c.if-not-label_fits.false in it)).there)

pub slice_bounds-get_le64-start : goal.slice_bounds-get_le64-start
slice_bounds-get_le64-start c =
    omega (arith, ((let it : Front c.args.s.now 3 23 = front_of (λ i. (c.type_inv.s i).fits) c.requires c.label_fits.ensures c.if-not-label_fits.false in it)).there)

pub get_le64-word-requires : goal.get_le64-word-requires
get_le64-word-requires c =
    simp (part_to_end, length-drop) (omega (arith, ((let it : Front c.args.s.now 3 23 = front_of (λ i. (c.type_inv.s i).fits) c.requires c.label_fits.ensures c.if-not-label_fits.false in it)).there))

pub bounds-s-3 : goal.bounds-s-3
bounds-s-3 c =
    omega (arith, ((let it : Front c.args.s.now 3 23 = front_of (λ i. (c.type_inv.s i).fits) c.requires c.label_fits.ensures c.if-not-label_fits.false in it)).there)

pub slice_bounds-dimensions-count : goal.slice_bounds-dimensions-count
slice_bounds-dimensions-count c =
    omega (arith, ((let it : Front c.args.s.now 3 23 = front_of (λ i. (c.type_inv.s i).fits) c.requires c.label_fits.ensures c.if-not-label_fits.false in it)).there)

pub slice_bounds-dimensions-start : goal.slice_bounds-dimensions-start
slice_bounds-dimensions-start c =
    omega (arith, ((let it : Front c.args.s.now 3 23 = front_of (λ i. (c.type_inv.s i).fits) c.requires c.label_fits.ensures c.if-not-label_fits.false in it)).there)

pub dimensions-size-requires : goal.dimensions-size-requires
dimensions-size-requires c =
    simp (part_to_end, length-drop) (omega (arith, ((let it : Front c.args.s.now 3 23 = front_of (λ i. (c.type_inv.s i).fits) c.requires c.label_fits.ensures c.if-not-label_fits.false in it)).there))

pub bounds-s-3-then-all_short : goal.bounds-s-3-then-all_short
bounds-s-3-then-all_short c =
    omega (arith, ((let it : Front c.args.s.now 3 23 = front_of (λ i. (c.type_inv.s i).fits) c.requires c.label_fits.ensures c.if-not-label_fits.false in it)).there)

pub bounds-s-3-2 : goal.bounds-s-3-2
bounds-s-3-2 c =
    omega (arith, ((let it : Front c.args.s.now 3 23 = front_of (λ i. (c.type_inv.s i).fits) c.requires c.label_fits.ensures c.if-not-label_fits.false in it)).there)

pub returns-then-all_short : goal.returns-then-all_short
returns-then-all_short c position =
    let z : DatedSection c.args.s.now c.args.mark = record {
      fronted = front_of (λ i. (c.type_inv.s i).fits) c.requires c.label_fits.ensures c.if-not-label_fits.false;
      last_is = c.if-s-gt1.false;
      word = c.get_le64-word.result;
      word_is = simp part_to_end at c.get_le64-word.ensures;
      mark_is = c.if-word-mark.false;
    } in
    let short : c.all_short.result ≡ all_short (dimensions_of 4 be32 (drop 9 c.args.s.now)) =
    rw (simp part_to_end at c.dimensions-size.ensures) at c.all_short.ensures in
    narrow_leads _ z position (sym short ∙ c.if-all_short.true)

pub returns : goal.returns
returns c position =
    let z : DatedSection c.args.s.now c.args.mark = record {
      fronted = front_of (λ i. (c.type_inv.s i).fits) c.requires c.label_fits.ensures c.if-not-label_fits.false;
      last_is = c.if-s-gt1.false;
      word = c.get_le64-word.result;
      word_is = simp part_to_end at c.get_le64-word.ensures;
      mark_is = c.if-word-mark.false;
    } in
    let short : c.all_short.result ≡ all_short (dimensions_of 4 be32 (drop 9 c.args.s.now)) =
    rw (simp part_to_end at c.dimensions-size.ensures) at c.all_short.ensures in
    wide_leads _ z position (sym short ∙ c.if-all_short.false)
