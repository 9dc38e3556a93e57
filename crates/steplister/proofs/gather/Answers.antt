-- `steplister::gather` meets its contract. Assumes nothing.
use borrow.Enum.Refused.{opened}
use borrow.Author.Rules.{rules}
use native.Mathlib.Omega.{arith}
use Rattle.std.specs.Prelude.{Ok}
use Rattle.std.proofs.lemmas.Result.{err_from_is_err_and}
use mathlib.Core.Path.{refl, sym, ap, ◌∙◌}
use lib.Seq.{length-take-le}
use Rattle.steplister.proofs.Turn.{going_first, record_few, record_less, going_on, gathered_all, gathered_none}
use Rattle.steplister.proofs.gather.Goals as goal

pub loop-answer-init : goal.loop-answer-init
loop-answer-init c = (going_first _ _ _ _ _ c.open_at-stand.ensures, refl, c.requires.2)

pub shape_of-sheet-in_default : goal.shape_of-sheet-in_default
shape_of-sheet-in_default c = let k = c.loop-answer.invariant.0.kept in search rules

pub shape_of-held-in_default : goal.shape_of-held-in_default
shape_of-held-in_default c = let k = c.loop-answer.invariant.1 in search rules

pub returns-in_default : goal.returns-in_default
returns-in_default c =
    let I = c.loop-answer.invariant in
    gathered_all I.0 I.2 c.next_at-taken.ensures _ c.in_ok-answer.was (opened c.in_default.in_default-own.keys2)

pub returns-in_err-answer : goal.returns-in_err-answer
returns-in_err-answer c =
    let I = c.loop-answer.invariant in
    let p = err_from_is_err_and c.from_residual.result c.from_residual.ensures.1 in
    rw (p.1, p.2) (gathered_none I.0 I.2 c.next_at-taken.ensures _ c.in_err-answer.was)

pub slice_bounds-lay_in-end : goal.slice_bounds-lay_in-end
slice_bounds-lay_in-end c =
    let I = c.loop-answer.invariant in
    let l = record_few I.0 I.2 c.next_at-taken.ensures _ _ (c.in_ok-answer.was ∙ ap Ok c.in-Record.is) in
    omega (arith, l, I.2, c.next_at-taken.auto)

pub slice_bounds-lay_in-end-in-loop-answer : goal.slice_bounds-lay_in-end-in-loop-answer
slice_bounds-lay_in-end-in-loop-answer c =
    let I = c.loop-answer.invariant in
    let l = record_few I.0 I.2 c.next_at-taken.ensures _ _ (c.in_ok-answer.was ∙ ap Ok c.in-Record.is) in
    sym (length-take-le _ _ (omega (arith, l, I.2, c.next_at-taken.auto)))

pub overflow_add-bytes : goal.overflow_add-bytes
overflow_add-bytes c =
    let I = c.loop-answer.invariant in
    let l = record_few I.0 I.2 c.next_at-taken.ensures _ _ (c.in_ok-answer.was ∙ ap Ok c.in-Record.is) in
    omega (arith, l, I.0.few, c.requires.0, c.requires.1)

pub loop-answer-smaller : goal.loop-answer-smaller
loop-answer-smaller c =
    let I = c.loop-answer.invariant in
    record_less I.0 I.2 c.next_at-taken.ensures _ _ (c.in_ok-answer.was ∙ ap Ok c.in-Record.is)

pub loop-answer-preserved : goal.loop-answer-preserved
loop-answer-preserved c =
    let I = c.loop-answer.invariant in
    let r = c.in_ok-answer.was ∙ ap Ok c.in-Record.is in
    let k = c.next_at-taken.auto in
    let e = c.lay_in.ensures in
    (going_on I.0 I.2 c.next_at-taken.ensures _ _ r _ e, omega (arith, k, I.1), omega (arith, k, I.2))
