-- `judge::foreign` meets its contract. Assumes nothing.
use native.Mathlib.Omega.{arith}
use borrow.Author.Rules.{rules}
use mathlib.Core.Path.{◌≡◌}
use lib.ListN.{length}
use Rattle.judge.proofs.Whole.{reading_first, reading_refused, reading_end, reading_more}
use Rattle.std.proofs.lemmas.Result.{err_from_is_err_and}
use Rattle.judge.proofs.foreign.Goals as goal

pub loop-found-init : goal.loop-found-init
loop-found-init c =
    let w : length c.blank-name.result.bytes ≡ 4096 = search rules in
    reading_first _ _ _ _ c.requires c.first_place-place.ensures w

pub next_record-requires : goal.next_record-requires
next_record-requires c =
    let i = c.loop-found.invariant.inside in
    (i.place_inside, i.label_short, i.label_whole)

pub returns-in-End : goal.returns-in-End
returns-in-End c =
    reading_end c.loop-found.invariant (rw c.in-End.is at c.in_ok-found.ensures)

pub loop-found-smaller : goal.loop-found-smaller
loop-found-smaller c =
    let T = rw c.in-Record.is at c.in_ok-found.ensures in
    omega (arith, T.further.0, T.further.1.place_inside)

pub loop-found-preserved : goal.loop-found-preserved
loop-found-preserved c =
    reading_more c.loop-found.invariant _ _
    (rw c.in-Record.is at c.in_ok-found.ensures)

pub returns-in_err-found : goal.returns-in_err-found
returns-in_err-found c =
    let p = err_from_is_err_and c.from_residual.result c.from_residual.ensures.1 in
    rw (p.1, p.2) (reading_refused c.loop-found.invariant _ c.in_err-found.ensures)
