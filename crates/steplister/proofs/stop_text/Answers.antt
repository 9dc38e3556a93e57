-- `steplister::stop_text` meets its contract. Assumes nothing.
use native.Mathlib.Omega.{arith}
use mathlib.Core.Path.{◌∙◌}
use lib.ListN.{length-take}
use Rattle.listing.proofs.Stores.{wrote_front}
use Rattle.steplister.proofs.Text.{listed_small, listed_whole}
use Rattle.steplister.proofs.stop_text.Goals as goal

pub returns-in-Err : goal.returns-in-Err
returns-in-Err c =
    let W = c.list.ensures in
    (omega (arith, W.1), rw c.in-Err.is (wrote_front _ _ _ _ W.0 (omega (arith, W.1, c.requires.1))))

pub returns-then-sheet-bytes : goal.returns-then-sheet-bytes
returns-then-sheet-bytes c =
    let W = rw c.at-refusal.ensures at c.list-then-sheet-bytes.ensures in
    (omega (arith, W.1), rw c.in-Ok.is (wrote_front _ _ _ _ W.0 (omega (arith, W.1, c.requires.1)) ∙ listed_small _ c.args.version c.args.sheet.now c.if-sheet-bytes.true))

pub returns : goal.returns
returns c =
    let W = c.list-2.ensures in
    let n = simp length-take at W.1 in
    (omega (arith, n, c.requires.0), rw c.in-Ok.is (wrote_front _ _ _ _ W.0 (omega (arith, n, c.requires.0, c.requires.1)) ∙ listed_whole _ c.args.version c.args.sheet.now c.if-sheet-bytes.false))
