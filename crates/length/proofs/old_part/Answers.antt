-- `length::old_part` meets its contract. Assumes nothing.
use native.Mathlib.Omega.{arith}
use borrow.Author.Tests.{lt-ltb, le-ltb, eq-eqb, ne_eqb}
use Rattle.format.specs.Bytes.{pick}
use borrow.Author.Rules.{part_to_end}
use mathlib.Core.Path.{◌∙◌}
use Rattle.format.specs.Items.{old_part}
use Rattle.length.proofs.old_part.Goals as goal

ruleset cases = (lt-ltb, le-ltb, eq-eqb, ne_eqb)

pub returns-then-t-lt1 : goal.returns-then-t-lt1
unfolding old_part pick
returns-then-t-lt1 c = (search cases, tt)

pub returns-then-b-lt254 : goal.returns-then-b-lt254
unfolding old_part pick
returns-then-b-lt254 c =
    let e = c.index-b.ensures.0 in
    (search (cases, ← e), (omega arith, omega arith))

pub returns-then-t-lt3 : goal.returns-then-t-lt3
unfolding old_part pick
returns-then-t-lt3 c =
    let e = c.index-b.ensures.0 in
    (simp (← e, le-ltb _ _ c.if-t-lt1.false, le-ltb _ _ c.if-b-lt254.false, eq-eqb _ _ c.if-b-eq254.true, lt-ltb _ _ c.if-t-lt3.true), tt)

pub returns-then-b-eq254 : goal.returns-then-b-eq254
unfolding old_part pick
returns-then-b-eq254 c =
    let e = c.index-b.ensures.0 in
    let g = simp part_to_end at c.get_le16.ensures.0 in
    let l = c.long-n.ensures.0 ∙ g in
    (simp (l, ← e, le-ltb _ _ c.if-t-lt1.false, le-ltb _ _ c.if-b-lt254.false, eq-eqb _ _ c.if-b-eq254.true, le-ltb _ _ c.if-t-lt3.false), (omega arith, omega arith))

pub returns-then-t-lt5 : goal.returns-then-t-lt5
unfolding old_part pick
returns-then-t-lt5 c =
    let e = c.index-b.ensures.0 in
    (simp (← e, le-ltb _ _ c.if-t-lt1.false, le-ltb _ _ c.if-b-lt254.false, ne_eqb _ _ c.if-b-eq254.false, lt-ltb _ _ c.if-t-lt5.true), tt)

pub returns : goal.returns
unfolding old_part pick
returns c =
    let e = c.index-b.ensures.0 in
    let g = simp part_to_end at c.get_le32.ensures.0 in
    let l = c.long-n-2.ensures.0 ∙ g in
    (simp (l, ← e, le-ltb _ _ c.if-t-lt1.false, le-ltb _ _ c.if-b-lt254.false, ne_eqb _ _ c.if-b-eq254.false, le-ltb _ _ c.if-t-lt5.false), (omega arith, c.long-n-2.ensures.1))
