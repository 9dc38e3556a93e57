-- `frame::put_closing` meets its contract. Assumes nothing.
use native.Mathlib.Omega.{arith}
use mathlib.Core.Path.{sym}
use borrow.Author.Tests.{eq-eqb, ne_eqb}
use Rattle.format.specs.Codes.{closing}
use Rattle.format.proofs.Basics.{pick_true, pick_false}
use Rattle.part.proofs.Laying.{lays_as, lays_within, puts_front}
use Rattle.frame.proofs.put_closing.Goals as goal

pub returns-then-style-eq0 : goal.returns-then-style-eq0
unfolding closing
returns-then-style-eq0 c =
    puts_front (lays_within (lays_as c.put.ensures
    (sym (pick_true _ _ (eq-eqb _ _ c.if-style-eq0.true)))) 2 (omega arith))

pub returns : goal.returns
unfolding closing
returns c =
    puts_front (lays_as c.put-2.ensures (sym (pick_false _ _ (ne_eqb _ _ c.if-style-eq0.false))))
