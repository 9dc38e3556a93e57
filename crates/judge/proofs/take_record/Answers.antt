-- `judge::take_record` meets its contract. Assumes nothing.
use native.Mathlib.Omega.{arith}
use mathlib.Core.Path.{sym, ◌∙◌}
use lib.ListN.{length-take}
use lib.Seq.{length-take-le}
use Rattle.judge.proofs.One.{found_refused, found_end, found_foreign, found_met}
use Rattle.std.proofs.lemmas.Result.{err_from_is_err_and}
use Rattle.judge.proofs.take_record.Goals as goal

pub copy_label-len-requires : goal.copy_label-len-requires
copy_label-len-requires c =
    (c.requires.0.inside.label_short, c.requires.0.inside.label_whole, c.requires.1)

pub next_record-requires : goal.next_record-requires
next_record-requires c =
    let K = c.copy_label-len.ensures in
    (c.requires.0.inside.place_inside, K.label_short, K.label_whole)

pub take_end-requires : goal.take_end-requires
take_end-requires c = (
  c.requires.0.inside.place_inside,
  c.requires.2,
)

pub returns-then-take_end : goal.returns-then-take_end
returns-then-take_end c =
    let T = rw c.in-End.is at c.in_ok-found.ensures in
    let E = c.take_end.ensures in (
      found_end c.args.file.now c.args.from c.args.label.now _ _ _
          c.copy_label-len.ensures T (sym E.0 ∙ c.if-take_end.true),
      T.further,
      E.1,
    )

pub slice_bounds-take_made-end : goal.slice_bounds-take_made-end
slice_bounds-take_made-end c =
    let T = rw c.in-Record.is at c.in_ok-found.ensures in
    sym (length-take-le _ _ (omega (arith, T.further.1.label_short, T.further.1.label_whole)))

pub take_made-requires : goal.take_made-requires
take_made-requires c =
    let T = rw c.in-Record.is at c.in_ok-found.ensures in (
      c.requires.0,
      found_met c.args.file.now c.args.from c.args.label.now _ _ _
          c.copy_label-len.ensures T,
      simp length-take
          (omega (arith, T.further.1.label_short)),
      c.requires.2,
    )

pub returns-else-take_end : goal.returns-else-take_end
returns-else-take_end c =
    let T = rw c.in-End.is at c.in_ok-found.ensures in
    let E = c.take_end.ensures in (
      found_foreign c.args.file.now c.args.from c.args.label.now _ _ _
          c.copy_label-len.ensures T (sym E.0 ∙ c.if-take_end.false),
      T.further,
      E.1,
    )

pub returns-in-Record : goal.returns-in-Record
returns-in-Record c =
    let T = rw c.in-Record.is at c.in_ok-found.ensures in
    let M = c.take_made.ensures in
    (M.0, T.further.1.label_whole, M.1)

pub returns-in_err-found : goal.returns-in_err-found
returns-in_err-found c =
    let p = err_from_is_err_and c.from_residual.result c.from_residual.ensures.1 in
    let T = c.in_err-found.ensures in
    rw (p.1, p.2) (found_refused c.args.file.now c.args.from c.args.label.now _ _ _ c.copy_label-len.ensures T, T.further, c.requires.2)
