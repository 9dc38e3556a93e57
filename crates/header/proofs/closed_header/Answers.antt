-- `closed_header` meets its contract, and what it tells stands in the file. Assumes nothing.
use native.Mathlib.Omega.{arith}
use borrow.Author.Tests.{eq-eqb, ne_eqb}
use Rattle.format.specs.Bytes.{pick}
use Rattle.format.specs.Header.{closed_header}
use Rattle.header.proofs.closed_header.Goals as goal

pub returns-then-version-eq8 : goal.returns-then-version-eq8
unfolding closed_header pick
returns-then-version-eq8 c =
    record { same = simp (eq-eqb _ _ c.if-version-eq8.true) c.extended_byte.ensures.same; room = c.extended_byte.ensures.room }

pub returns : goal.returns
unfolding closed_header pick
returns c =
    let n = ne_eqb _ _ c.if-version-eq8.false in
    record {
      same = simp n;
      room = record {
        oldest = omega arith;
        newest = omega arith;
        flag = omega arith;
        title_fits = omega arith;
        time_fits = omega arith;
        place_is = simp n;
        place_least = omega arith;
        place_most = omega arith;
        inside = omega arith;
        file_fits = omega arith;
      };
    }
