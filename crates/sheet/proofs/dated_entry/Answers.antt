-- `sheet::dated_entry` meets its contract. Assumes nothing.
use borrow.Author.Tests.{le-leb, lt-leb}
use mathlib.Core.Path.{◌≡◌, sym, ◌∙◌}
use borrow.Author.Rules.{part_to_end}
use lib.ListN.{drop}
use Rattle.format.specs.Bytes.{be16}
use Rattle.sheet.proofs.Entries.{Fitting, fitted, too_long_lem, spoilt, whole, section_is}
use Rattle.sheet.proofs.dated_entry.Goals as goal

pub returns-then-not-good_date : goal.returns-then-not-good_date
returns-then-not-good_date c =
    let day : c.day_of-day.result ≡ be16 (drop 5 c.args.s.now) = c.day_of-day.ensures ∙ simp part_to_end at c.get_be16.ensures.0 in
    let last : c.day_of-end.result ≡ be16 (drop 7 c.args.s.now) = c.day_of-end.ensures ∙ simp part_to_end at c.get_be16-2.ensures.0 in
    let g = rw (day, last) at (sym c.good_date.ensures ∙ c.if-not-good_date.true) in
    spoilt (section_is _ _) ((let it : Fitting c.args.s.now c.args.n 23 = fitted c.label_fits.ensures c.if-not-label_fits.false c.requires in it))
    (simp (le-leb _ _ c.if-last-gt1.false, g))

pub returns : goal.returns
returns c =
    let day : c.day_of-day.result ≡ be16 (drop 5 c.args.s.now) = c.day_of-day.ensures ∙ simp part_to_end at c.get_be16.ensures.0 in
    let last : c.day_of-end.result ≡ be16 (drop 7 c.args.s.now) = c.day_of-end.ensures ∙ simp part_to_end at c.get_be16-2.ensures.0 in
    let g = rw (day, last) at (sym c.good_date.ensures
    ∙ c.if-not-good_date.false) in
    rw (simp part_to_end at c.dimensions-size.ensures, c.date_from-date.ensures, day, last)
    (whole (section_is _ _)
    ((let it : Fitting c.args.s.now c.args.n 23 = fitted c.label_fits.ensures c.if-not-label_fits.false c.requires in it))
    (simp (le-leb _ _ c.if-last-gt1.false, g)))

pub returns-then-not-label_fits : goal.returns-then-not-label_fits
returns-then-not-label_fits c =
    too_long_lem (section_is _ _) (sym c.label_fits.ensures ∙ c.if-not-label_fits.true)

pub returns-then-last-gt1 : goal.returns-then-last-gt1
returns-then-last-gt1 c =
    spoilt (section_is _ _) ((let it : Fitting c.args.s.now c.args.n 23 = fitted c.label_fits.ensures c.if-not-label_fits.false c.requires in it)) (simp (lt-leb _ _ c.if-last-gt1.true))
