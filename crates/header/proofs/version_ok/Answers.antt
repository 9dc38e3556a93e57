-- `version_ok` meets its contract, test by test. Assumes nothing.
use mathlib.Core.Path.{sym}
use borrow.Author.Tests.{lt-ltb, le-ltb, le-leb, lt-leb, eq-eqb, ne_eqb}
use Rattle.format.specs.Header.{good_version}
use Rattle.header.proofs.Lines.{version_short}
use Rattle.header.proofs.version_ok.Goals as goal

ruleset cases = (lt-ltb, le-ltb, le-leb, lt-leb, eq-eqb, ne_eqb)

pub returns-then-file-lt24 : goal.returns-then-file-lt24
returns-then-file-lt24 c =
    sym (version_short c.args.file.now c.if-file-lt24.true)

pub returns-then-file-ne118 : goal.returns-then-file-ne118
unfolding good_version
returns-then-file-ne118 c = search cases

pub returns-then-version-lt51 : goal.returns-then-version-lt51
unfolding good_version
returns-then-version-lt51 c = search cases

pub returns-then-version-gt56 : goal.returns-then-version-gt56
unfolding good_version
returns-then-version-gt56 c = search cases

pub returns : goal.returns
unfolding good_version
returns c = search cases
