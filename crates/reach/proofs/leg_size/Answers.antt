-- `reach::leg_size` meets its contract. Assumes nothing.
use native.Mathlib.Omega.{arith}
use Prim.Native.Nat.{◌+◌, ◌≤◌}
use mathlib.Core.Path.{sym, ap, ◌∙◌}
use borrow.Author.Rules.{part_to_end}
use lib.ListN.{length, length-drop}
use Rattle.sheet.proofs.Entries.{Fitting, fitted, leg_long, leg_flags, leg_style, leg_date, leg_whole}
use Rattle.reach.specs.Reaching.{size_of}
use Rattle.reach.proofs.leg_size.Goals as goal

pub returns-then-not-label_fits : goal.returns-then-not-label_fits
returns-then-not-label_fits c =
    ap size_of (leg_long c.args.s.now c.args.n (sym c.label_fits.ensures ∙ c.if-not-label_fits.true)).same

pub bounds-s-3 : goal.bounds-s-3
bounds-s-3 c = omega (arith, (let it : (32 ≤ c.args.n) × (2 + c.args.n ≤ length c.args.s.now) = (((let it : Fitting c.args.s.now c.args.n 32 = fitted c.label_fits.ensures c.if-not-label_fits.false c.requires in it)).least, ((let it : Fitting c.args.s.now c.args.n 32 = fitted c.label_fits.ensures c.if-not-label_fits.false c.requires in it)).there) in it))

pub returns-then-s-gt7 : goal.returns-then-s-gt7
returns-then-s-gt7 c =
    let e = (let it : Fitting c.args.s.now c.args.n 32 = fitted c.label_fits.ensures c.if-not-label_fits.false c.requires in it) in
    ap size_of (leg_flags c.args.s.now c.args.n e c.if-s-gt7.true).same

pub bounds-s-4 : goal.bounds-s-4
bounds-s-4 c = omega (arith, (let it : (32 ≤ c.args.n) × (2 + c.args.n ≤ length c.args.s.now) = (((let it : Fitting c.args.s.now c.args.n 32 = fitted c.label_fits.ensures c.if-not-label_fits.false c.requires in it)).least, ((let it : Fitting c.args.s.now c.args.n 32 = fitted c.label_fits.ensures c.if-not-label_fits.false c.requires in it)).there) in it))

pub returns-then-s-gt5 : goal.returns-then-s-gt5
returns-then-s-gt5 c =
    let e = (let it : Fitting c.args.s.now c.args.n 32 = fitted c.label_fits.ensures c.if-not-label_fits.false c.requires in it) in
    ap size_of (leg_style c.args.s.now c.args.n e c.if-s-gt7.false c.if-s-gt5.true).same

pub slice_bounds-get_be16-count : goal.slice_bounds-get_be16-count
slice_bounds-get_be16-count c = omega (arith, (let it : (32 ≤ c.args.n) × (2 + c.args.n ≤ length c.args.s.now) = (((let it : Fitting c.args.s.now c.args.n 32 = fitted c.label_fits.ensures c.if-not-label_fits.false c.requires in it)).least, ((let it : Fitting c.args.s.now c.args.n 32 = fitted c.label_fits.ensures c.if-not-label_fits.false c.requires in it)).there) in it))

pub slice_bounds-get_be16-start : goal.slice_bounds-get_be16-start
slice_bounds-get_be16-start c = omega (arith, (let it : (32 ≤ c.args.n) × (2 + c.args.n ≤ length c.args.s.now) = (((let it : Fitting c.args.s.now c.args.n 32 = fitted c.label_fits.ensures c.if-not-label_fits.false c.requires in it)).least, ((let it : Fitting c.args.s.now c.args.n 32 = fitted c.label_fits.ensures c.if-not-label_fits.false c.requires in it)).there) in it))

pub get_be16-requires : goal.get_be16-requires
get_be16-requires c =
    simp (part_to_end, length-drop) (omega (arith, (let it : (32 ≤ c.args.n) × (2 + c.args.n ≤ length c.args.s.now) = (((let it : Fitting c.args.s.now c.args.n 32 = fitted c.label_fits.ensures c.if-not-label_fits.false c.requires in it)).least, ((let it : Fitting c.args.s.now c.args.n 32 = fitted c.label_fits.ensures c.if-not-label_fits.false c.requires in it)).there) in it)))

pub slice_bounds-get_be16-count-2 : goal.slice_bounds-get_be16-count-2
slice_bounds-get_be16-count-2 c = omega (arith, (let it : (32 ≤ c.args.n) × (2 + c.args.n ≤ length c.args.s.now) = (((let it : Fitting c.args.s.now c.args.n 32 = fitted c.label_fits.ensures c.if-not-label_fits.false c.requires in it)).least, ((let it : Fitting c.args.s.now c.args.n 32 = fitted c.label_fits.ensures c.if-not-label_fits.false c.requires in it)).there) in it))

pub slice_bounds-get_be16-start-2 : goal.slice_bounds-get_be16-start-2
slice_bounds-get_be16-start-2 c = omega (arith, (let it : (32 ≤ c.args.n) × (2 + c.args.n ≤ length c.args.s.now) = (((let it : Fitting c.args.s.now c.args.n 32 = fitted c.label_fits.ensures c.if-not-label_fits.false c.requires in it)).least, ((let it : Fitting c.args.s.now c.args.n 32 = fitted c.label_fits.ensures c.if-not-label_fits.false c.requires in it)).there) in it))

pub get_be16-requires-2 : goal.get_be16-requires-2
get_be16-requires-2 c =
    simp (part_to_end, length-drop) (omega (arith, (let it : (32 ≤ c.args.n) × (2 + c.args.n ≤ length c.args.s.now) = (((let it : Fitting c.args.s.now c.args.n 32 = fitted c.label_fits.ensures c.if-not-label_fits.false c.requires in it)).least, ((let it : Fitting c.args.s.now c.args.n 32 = fitted c.label_fits.ensures c.if-not-label_fits.false c.requires in it)).there) in it)))

pub bounds-s-5 : goal.bounds-s-5
bounds-s-5 c = omega (arith, (let it : (32 ≤ c.args.n) × (2 + c.args.n ≤ length c.args.s.now) = (((let it : Fitting c.args.s.now c.args.n 32 = fitted c.label_fits.ensures c.if-not-label_fits.false c.requires in it)).least, ((let it : Fitting c.args.s.now c.args.n 32 = fitted c.label_fits.ensures c.if-not-label_fits.false c.requires in it)).there) in it))

pub returns-then-not-good_date : goal.returns-then-not-good_date
returns-then-not-good_date c =
    let e = (let it : Fitting c.args.s.now c.args.n 32 = fitted c.label_fits.ensures c.if-not-label_fits.false c.requires in it) in
    let d1 = c.day_of-first.ensures ∙ simp part_to_end at c.get_be16.ensures.0 in
    let d2 = c.day_of-last.ensures ∙ simp part_to_end at c.get_be16-2.ensures.0 in
    let g = rw (d1, d2) at (sym c.good_date.ensures ∙ c.if-not-good_date.true) in
    ap size_of (leg_date c.args.s.now c.args.n e c.if-s-gt7.false c.if-s-gt5.false g).same

pub returns : goal.returns
returns c =
    let e = (let it : Fitting c.args.s.now c.args.n 32 = fitted c.label_fits.ensures c.if-not-label_fits.false c.requires in it) in
    let d1 = c.day_of-first.ensures ∙ simp part_to_end at c.get_be16.ensures.0 in
    let d2 = c.day_of-last.ensures ∙ simp part_to_end at c.get_be16-2.ensures.0 in
    let g = rw (d1, d2) at (sym c.good_date.ensures ∙ c.if-not-good_date.false) in
    ap size_of (leg_whole c.args.s.now c.args.n e c.if-s-gt7.false c.if-s-gt5.false g).same
