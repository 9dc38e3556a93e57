-- `extended_byte` meets its contract, and what it tells stands in the file. Assumes nothing.
use native.Mathlib.Omega.{arith}
use borrow.Author.Tests.{lt-ltb, le-ltb, le-leb, lt-leb, eq-eqb, ne_eqb}
use Rattle.format.specs.Bytes.{pick}
use Rattle.format.specs.Header.{extended_byte}
use Rattle.header.proofs.extended_byte.Goals as goal

ruleset cases = (lt-ltb, le-ltb, le-leb, lt-leb, eq-eqb, ne_eqb)

pub returns-then-file-place : goal.returns-then-file-place
unfolding extended_byte pick
returns-then-file-place c = rw c.at.ensures (record { same = search cases; room = tt })

pub returns-then-flags-eq0 : goal.returns-then-flags-eq0
unfolding extended_byte pick
returns-then-flags-eq0 c =
    record {
      same = search cases;
      room = record { oldest = omega arith; newest = omega arith; flag = omega arith; title_fits = omega arith; time_fits = omega arith; place_is = omega arith; place_least = omega arith; place_most = omega arith; inside = omega arith; file_fits = omega arith };
    }

pub returns-then-flags : goal.returns-then-flags
unfolding extended_byte pick
returns-then-flags c =
    record {
      same = search cases;
      room = record { oldest = omega arith; newest = omega arith; flag = omega arith; title_fits = omega arith; time_fits = omega arith; place_is = omega arith; place_least = omega arith; place_most = omega arith; inside = omega arith; file_fits = omega arith };
    }

pub returns : goal.returns
unfolding extended_byte pick
returns c = rw c.at-2.ensures (record { same = search cases; room = tt })
