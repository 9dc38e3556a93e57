use native.Mathlib.Omega.{arith}
use mathlib.Core.Path.{refl, sym, ◌∙◌}
use borrow.Author.Rules.{part_to_end}
use lib.ListN.{length-drop}
use Rattle.plain.proofs.Leads.{Front, front_of, leg_leads}
use Rattle.plain.proofs.leg_head.Goals as goal

pub returns : goal.returns
returns c =
    let e = simp part_to_end at c.get_le64-word.ensures in
    let d = simp part_to_end at c.point-from.ensures in
    let z = rw d at (sym c.stands_at.ensures ∙ c.if-not-stands_at.false) in
    let f = c.if-s-gt7.false in (
      (refl, omega arith, omega (arith, f)),
      λ version. leg_leads _ ((let it : Front c.args.s.now 1 32 = front_of (λ i. (c.type_inv.s i).fits) c.requires c.label_fits.ensures c.if-not-label_fits.false in it)) f _ _ e
          c.if-word-mark.false _ z version,
    )

pub slice_bounds-get_le64-count : goal.slice_bounds-get_le64-count
slice_bounds-get_le64-count c =
    omega (arith, ((let it : Front c.args.s.now 1 32 = front_of (λ i. (c.type_inv.s i).fits) c.requires c.label_fits.ensures c.if-not-label_fits.false in it)).there)

pub slice_bounds-get_le64-start : goal.slice_bounds-get_le64-start
slice_bounds-get_le64-start c =
    omega (arith, ((let it : Front c.args.s.now 1 32 = front_of (λ i. (c.type_inv.s i).fits) c.requires c.label_fits.ensures c.if-not-label_fits.false in it)).there)

pub get_le64-word-requires : goal.get_le64-word-requires
get_le64-word-requires c =
    simp (part_to_end, length-drop) (omega (arith, ((let it : Front c.args.s.now 1 32 = front_of (λ i. (c.type_inv.s i).fits) c.requires c.label_fits.ensures c.if-not-label_fits.false in it)).there))

pub bounds-s-3 : goal.bounds-s-3
bounds-s-3 c =
    omega (arith, ((let it : Front c.args.s.now 1 32 = front_of (λ i. (c.type_inv.s i).fits) c.requires c.label_fits.ensures c.if-not-label_fits.false in it)).there)

pub slice_bounds-point-count : goal.slice_bounds-point-count
slice_bounds-point-count c =
    omega (arith, ((let it : Front c.args.s.now 1 32 = front_of (λ i. (c.type_inv.s i).fits) c.requires c.label_fits.ensures c.if-not-label_fits.false in it)).there)

pub slice_bounds-point-start : goal.slice_bounds-point-start
slice_bounds-point-start c =
    omega (arith, ((let it : Front c.args.s.now 1 32 = front_of (λ i. (c.type_inv.s i).fits) c.requires c.label_fits.ensures c.if-not-label_fits.false in it)).there)

pub point-from-requires : goal.point-from-requires
point-from-requires c =
    simp (part_to_end, length-drop) (omega (arith, ((let it : Front c.args.s.now 1 32 = front_of (λ i. (c.type_inv.s i).fits) c.requires c.label_fits.ensures c.if-not-label_fits.false in it)).there))

pub bounds-s-3-2 : goal.bounds-s-3-2
bounds-s-3-2 c =
    omega (arith, ((let it : Front c.args.s.now 1 32 = front_of (λ i. (c.type_inv.s i).fits) c.requires c.label_fits.ensures c.if-not-label_fits.false in it)).there)
