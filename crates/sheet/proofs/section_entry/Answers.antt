-- `sheet::section_entry` meets its contract. Assumes nothing.
use borrow.Author.Tests.{eq-eqb, ne_eqb}
use Rattle.format.specs.Bytes.{pick}
use Rattle.sheet.proofs.section_entry.Goals as goal

pub returns-then-version-eq-UNDATED_VERSION : goal.returns-then-version-eq-UNDATED_VERSION
unfolding pick
returns-then-version-eq-UNDATED_VERSION c =
    rw (eq-eqb _ _ c.if-version-eq-UNDATED_VERSION.true) c.undated_entry.ensures

pub returns : goal.returns
unfolding pick
returns c =
    rw (ne_eqb _ _ c.if-version-eq-UNDATED_VERSION.false) c.dated_entry.ensures
