-- `converter::output_of` meets its contract: by the way that the conversion goes. Assumes nothing.
use native.Mathlib.Omega.{arith}
use mathlib.Core.Path.{sym, ◌∙◌}
use lib.ListN.{take}
use lib.Seq.{length-take-le}
use Rattle.listing.proofs.Stores.{wrote_front}
use Rattle.converter.proofs.Laws.{output_long, output_refused, output_file}
use Rattle.converter.proofs.output_of.Goals as goal

pub slice_bounds-file-end : goal.slice_bounds-file-end
slice_bounds-file-end c =
    sym (length-take-le _ _ c.requires.1)

pub returns-then-n-gt-INPUT_LIMIT : goal.returns-then-n-gt-INPUT_LIMIT
returns-then-n-gt-INPUT_LIMIT c =
    let l = length-take-le c.args.n c.args.input.now c.requires.1 in
    let W = c.list.ensures in
    (omega (arith, W.1), wrote_front _ _ _ _ W.0 (omega (arith, W.1, c.requires.3)) ∙ output_long (take c.args.n c.args.input.now) (omega (arith, l, c.if-n-gt-INPUT_LIMIT.true)))

pub returns-in-Err : goal.returns-in-Err
returns-in-Err c =
    let l = length-take-le c.args.n c.args.input.now c.requires.1 in
    let W = c.list-in-Err.ensures in
    let k = c.convert.auto.out in
    let e = c.in-Err.ensures.answer in
    (omega (arith, W.1), wrote_front _ _ _ _ W.0 (omega (arith, W.1, k, c.requires.3)) ∙ output_refused (take c.args.n c.args.input.now) c.args.sheet.now c.args.out.now c.requires.2 c.requires.3 (omega (arith, l, c.if-n-gt-INPUT_LIMIT.false)) _ _ e)

pub returns-in-Ok : goal.returns-in-Ok
returns-in-Ok c =
    let l = length-take-le c.args.n c.args.input.now c.requires.1 in
    let e = c.in-Ok.ensures.answer in
    let O = output_file (take c.args.n c.args.input.now) c.args.sheet.now c.args.out.now c.requires.2 c.requires.3 (omega (arith, l, c.if-n-gt-INPUT_LIMIT.false)) _ _ _ _ e c.convert.ensures.file in
    (omega (arith, O.room, c.requires.3), O.text)
