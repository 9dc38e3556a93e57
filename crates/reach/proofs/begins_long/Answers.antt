-- `reach::begins_long` meets its contract. Assumes nothing.
use native.Mathlib.Omega.{arith}
use Prim.Native.Nat.{◌-◌}
use mathlib.Core.Path.{refl, sym, ◌∙◌}
use borrow.Author.Rules.{part_to_end}
use lib.ListN.{length, length-drop}
use Rattle.reach.proofs.Words.{word_other, words_more, words_all}
use Rattle.reach.proofs.begins_long.Goals as goal

pub overflow_sub-last : goal.overflow_sub-last
overflow_sub-last c = omega (arith, c.requires.0)

pub loop-i-init : goal.loop-i-init
loop-i-init c = (omega (arith, c.requires.0), refl)

pub slice_bounds-same_word-count : goal.slice_bounds-same_word-count
slice_bounds-same_word-count c =
    omega (arith, c.requires.0, c.requires.1, c.loop-i.invariant.0)

pub slice_bounds-same_word-start : goal.slice_bounds-same_word-start
slice_bounds-same_word-start c =
    omega (arith, c.requires.0, c.requires.1, c.loop-i.invariant.0)

pub slice_bounds-same_word-count-in-loop-i : goal.slice_bounds-same_word-count-in-loop-i
slice_bounds-same_word-count-in-loop-i c =
    omega (arith, c.requires.0, c.requires.1, c.loop-i.invariant.0)

pub slice_bounds-same_word-start-in-loop-i : goal.slice_bounds-same_word-start-in-loop-i
slice_bounds-same_word-start-in-loop-i c =
    omega (arith, c.requires.0, c.requires.1, c.loop-i.invariant.0)

pub same_word-requires : goal.same_word-requires
same_word-requires c =
    let i = c.loop-i-test.true in
    (simp (part_to_end, length-drop) (omega (arith, c.requires.0, c.requires.1, i)), simp (part_to_end, length-drop) (omega (arith, c.requires.0, c.requires.1, i)))

pub returns-then-not-same_word : goal.returns-then-not-same_word
returns-then-not-same_word c =
    let e = simp part_to_end at c.same_word.ensures in
    sym (word_other c.args.s.now c.args.name.now c.loop-i.i (omega (arith, c.loop-i-test.true, c.requires.0)) (sym e ∙ c.if-not-same_word.true))

pub overflow_add-i : goal.overflow_add-i
overflow_add-i c =
    omega (arith, c.loop-i-test.true, c.requires.0, c.well_formed)

pub loop-i-smaller : goal.loop-i-smaller
loop-i-smaller c =
    omega (arith, c.loop-i-test.true)

pub loop-i-preserved : goal.loop-i-preserved
loop-i-preserved c =
    let e = simp part_to_end at c.same_word.ensures in
    (omega (arith, c.loop-i-test.true), words_more c.args.s.now c.args.name.now c.loop-i.i c.loop-i.invariant.1 (sym e ∙ c.if-not-same_word.false))

pub slice_bounds-same_word-count-2 : goal.slice_bounds-same_word-count-2
slice_bounds-same_word-count-2 c =
    omega (arith, c.requires.0, c.requires.1)

pub slice_bounds-same_word-start-2 : goal.slice_bounds-same_word-start-2
slice_bounds-same_word-start-2 c =
    omega (arith, c.requires.0, c.requires.1)

pub slice_bounds-same_word-count-3 : goal.slice_bounds-same_word-count-3
slice_bounds-same_word-count-3 c =
    omega (arith, c.requires.0, c.requires.1)

pub slice_bounds-same_word-start-3 : goal.slice_bounds-same_word-start-3
slice_bounds-same_word-start-3 c =
    omega (arith, c.requires.0, c.requires.1)

pub same_word-requires-2 : goal.same_word-requires-2
same_word-requires-2 c =
    (simp (part_to_end, length-drop) (omega (arith, c.requires.0, c.requires.1)), simp (part_to_end, length-drop) (omega (arith, c.requires.0, c.requires.1)))

pub returns : goal.returns
returns c =
    let e = simp part_to_end at c.same_word-2.ensures in
    e ∙ words_all c.args.s.now c.args.name.now c.loop-i.i (length c.args.name.now - 8) (omega (arith, c.loop-i-test.false)) (omega (arith, c.requires.0)) c.loop-i.invariant.1
