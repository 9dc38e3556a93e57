-- `lister::text_of` meets its contract: by the way that the reading goes. Assumes nothing.
use native.Mathlib.Omega.{arith}
use mathlib.Core.Path.{sym, ◌∙◌}
use lib.ListN.{take, length-take}
use lib.Seq.{length-take-le}
use Rattle.read.proofs.Room.{read_room}
use Rattle.listing.proofs.Lister.{prints_too_long, bytes_take}
use Rattle.listing.proofs.Stores.{wrote_front}
use Rattle.lister.proofs.Laws.{text_refused, text_listing}
use Rattle.lister.proofs.text_of.Goals as goal

pub slice_bounds-file-end : goal.slice_bounds-file-end
slice_bounds-file-end c =
    sym (length-take-le _ _ c.requires.1)

pub returns-then-n-gt-INPUT_LIMIT : goal.returns-then-n-gt-INPUT_LIMIT
returns-then-n-gt-INPUT_LIMIT c =
    let l = length-take-le c.args.n c.args.input.now c.requires.1 in
    let W = c.list.ensures in
    (omega (arith, W.1), wrote_front _ _ _ _ W.0 (omega (arith, W.1, c.requires.3)) ∙ sym (prints_too_long (take c.args.n c.args.input.now) (omega (arith, l, c.if-n-gt-INPUT_LIMIT.true))))

pub slice_bounds-list-end-in-Ok : goal.slice_bounds-list-end-in-Ok
slice_bounds-list-end-in-Ok c =
    let h = read_room _ _ _ _ _ c.in-Ok.ensures.answer in
    let k = c.read.auto.sheet in
    omega arith

pub slice_bounds-list-end-in-Ok-2 : goal.slice_bounds-list-end-in-Ok-2
slice_bounds-list-end-in-Ok-2 c =
    let h = read_room _ _ _ _ _ c.in-Ok.ensures.answer in
    let k = c.read.auto.sheet in
    sym (length-take-le _ _ (omega arith))

pub returns-in-Err : goal.returns-in-Err
returns-in-Err c =
    let l = length-take-le c.args.n c.args.input.now c.requires.1 in
    let W = c.list-in-Err.ensures in
    let e = c.in-Err.ensures.answer in
    (omega (arith, W.1), wrote_front _ _ _ _ W.0 (omega (arith, W.1, c.requires.3)) ∙ text_refused (take c.args.n c.args.input.now) c.args.sheet.now c.requires.2 (omega (arith, l, c.if-n-gt-INPUT_LIMIT.false)) e)

pub returns-in-Ok : goal.returns-in-Ok
returns-in-Ok c =
    let l = length-take-le c.args.n c.args.input.now c.requires.1 in
    let W = c.list-in-Ok.ensures in
    let e = c.in-Ok.ensures.answer in
    let k = c.read.auto.sheet in
    let n = simp length-take at W.1 in
    (omega (arith, n, k, c.requires.2), wrote_front _ _ _ _ W.0 (omega (arith, n, k, c.requires.2, c.requires.3)) ∙ text_listing (take c.args.n c.args.input.now) c.args.sheet.now c.requires.2 (omega (arith, l, c.if-n-gt-INPUT_LIMIT.false)) (bytes_take c.args.n c.args.input.now (λ i. (c.shared_slice_known-1.given i).fits)) _ _ _ _ e c.read.ensures.sheet)
