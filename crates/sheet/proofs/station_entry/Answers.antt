-- `sheet::station_entry` meets its contract. Assumes nothing.
use borrow.Author.Tests.{le-leb, lt-leb}
use mathlib.Core.Path.{sym, ◌∙◌}
use borrow.Author.Rules.{part_to_end}
use Rattle.sheet.proofs.Entries.{Fitting, fitted, too_long_lem, spoilt, whole, station_is}
use Rattle.sheet.proofs.station_entry.Goals as goal

pub returns-then-not-label_fits : goal.returns-then-not-label_fits
returns-then-not-label_fits c =
    too_long_lem (station_is _ _) (sym c.label_fits.ensures ∙ c.if-not-label_fits.true)

pub returns-then-flags-gt127 : goal.returns-then-flags-gt127
returns-then-flags-gt127 c =
    spoilt (station_is _ _) ((let it : Fitting c.args.s.now c.args.n 14 = fitted c.label_fits.ensures c.if-not-label_fits.false c.requires in it)) (lt-leb _ _ c.if-flags-gt127.true)

pub returns : goal.returns
returns c =
    rw (simp part_to_end at c.point-place.ensures)
    (whole (station_is _ _) ((let it : Fitting c.args.s.now c.args.n 14 = fitted c.label_fits.ensures c.if-not-label_fits.false c.requires in it)) (le-leb _ _ c.if-flags-gt127.false))
