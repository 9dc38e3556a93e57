-- `piece::same_name` meets its contract. Assumes nothing.
use Prim.Native.Nat.{ℕ, ◌≤◌, ◌*◌, ◌+◌}
use mathlib.Core.Path.{◌≡◌, sym, ap, ◌∙◌}
use mathlib.Core.List.{List}
use lib.ListN.{length, drop_of_length-le}
use native.Mathlib.Omega.{arith}
use borrow.Author.Rules.{part_to_end}
use Rattle.format.specs.Bytes.{same}
use Rattle.wire.proofs.Laws.{same_false, same_past, same_other}
use Rattle.piece.proofs.Laws.{same_fours, fours_other}
use Rattle.piece.proofs.same_name.Goals as goal

pub returns-then-a-b : goal.returns-then-a-b
returns-then-a-b c =
    sym (same_false c.args.a.now c.args.b.now (λ e. c.if-a-b.true (ap (λ (s : List ℕ). length s) e)))

pub returns-then-not-same_four : goal.returns-then-not-same_four
returns-then-not-same_four c =
    sym (fours_other c.args.a.now c.args.b.now (4 * c.loop-turn.turn) (simp part_to_end at (sym c.same_four.ensures ∙ c.if-not-same_four.true)))

pub loop-turn-preserved : goal.loop-turn-preserved
loop-turn-preserved c =
    let l = c.loop-turn in
    let q : 4 * (l.turn + 1) ≡ 4 * l.turn + 4 = omega arith in
    rw q (sym (same_fours c.args.a.now c.args.b.now (4 * l.turn) (omega arith) (omega arith) (simp part_to_end at (sym c.same_four.ensures ∙ c.if-not-same_four.false))) ∙ l.invariant)

pub returns-then-a-i : goal.returns-then-a-i
returns-then-a-i c =
    sym (same_other c.args.a.now c.args.b.now c.loop-i.i c.if-a-i.true)

pub loop-i-preserved : goal.loop-i-preserved
loop-i-preserved c =
    let l = c.loop-i in
    sym (same_past c.args.a.now c.args.b.now l.i (omega arith) (omega arith) c.if-a-i.false) ∙ l.invariant

pub returns : goal.returns
unfolding same
returns c =
    let l = c.loop-i in
    let ea : length c.args.a.now ≤ l.i = omega arith in
    let eb : length c.args.b.now ≤ l.i = omega arith in
    rw (drop_of_length-le c.args.a.now ea, drop_of_length-le c.args.b.now eb) at l.invariant
