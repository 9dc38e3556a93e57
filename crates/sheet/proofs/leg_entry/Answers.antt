-- `sheet::leg_entry` meets its contract. Assumes nothing.
use mathlib.Core.Path.{◌≡◌, sym, ◌∙◌}
use borrow.Author.Rules.{part_to_end}
use lib.ListN.{drop}
use Rattle.format.specs.Bytes.{be16}
use Rattle.sheet.proofs.Entries.{Fitting, fitted, leg_long, leg_flags, leg_style, leg_date, leg_whole}
use Rattle.sheet.proofs.leg_entry.Goals as goal

pub returns-then-not-good_date : goal.returns-then-not-good_date
returns-then-not-good_date c =
    let day : c.day_of-first.result ≡ be16 (drop 6 c.args.s.now) = c.day_of-first.ensures ∙ simp part_to_end at c.get_be16.ensures.0 in
    let last : c.day_of-last.result ≡ be16 (drop 8 c.args.s.now) = c.day_of-last.ensures ∙ simp part_to_end at c.get_be16-2.ensures.0 in
    let g = rw (day, last) at (sym c.good_date.ensures ∙ c.if-not-good_date.true) in
    leg_date _ _ ((let it : Fitting c.args.s.now c.args.n 32 = fitted c.label_fits.ensures c.if-not-label_fits.false c.requires in it))
    c.if-s-gt7.false
    c.if-s-gt5.false g

pub returns : goal.returns
returns c =
    let day : c.day_of-first.result ≡ be16 (drop 6 c.args.s.now) = c.day_of-first.ensures ∙ simp part_to_end at c.get_be16.ensures.0 in
    let last : c.day_of-last.result ≡ be16 (drop 8 c.args.s.now) = c.day_of-last.ensures ∙ simp part_to_end at c.get_be16-2.ensures.0 in
    let g = rw (day, last) at (sym c.good_date.ensures ∙ c.if-not-good_date.false) in
    rw (c.leg.ensures, c.date_from-date.ensures, day, last)
    (leg_whole _ _ ((let it : Fitting c.args.s.now c.args.n 32 = fitted c.label_fits.ensures c.if-not-label_fits.false c.requires in it)) c.if-s-gt7.false
    c.if-s-gt5.false g)

pub returns-then-not-label_fits : goal.returns-then-not-label_fits
returns-then-not-label_fits c =
    leg_long _ _ (sym c.label_fits.ensures ∙ c.if-not-label_fits.true)

pub returns-then-s-gt7 : goal.returns-then-s-gt7
returns-then-s-gt7 c =
    leg_flags _ _ ((let it : Fitting c.args.s.now c.args.n 32 = fitted c.label_fits.ensures c.if-not-label_fits.false c.requires in it)) c.if-s-gt7.true

pub returns-then-s-gt5 : goal.returns-then-s-gt5
returns-then-s-gt5 c =
    leg_style _ _ ((let it : Fitting c.args.s.now c.args.n 32 = fitted c.label_fits.ensures c.if-not-label_fits.false c.requires in it)) c.if-s-gt7.false c.if-s-gt5.true
