-- `steplister::text_of` meets its contract: by the way that the stepping goes. Assumes nothing.
use native.Mathlib.Omega.{arith}
use mathlib.Core.Path.{sym, ◌∙◌}
use lib.ListN.{take}
use lib.Seq.{length-take-le}
use Rattle.listing.proofs.Lister.{bytes_take, prints_too_long, prints_shut}
use Rattle.listing.proofs.Stores.{wrote_front}
use Rattle.steplister.proofs.Text.{opens, stepped_text}
use Rattle.steplister.proofs.text_of.Goals as goal

pub slice_bounds-file-end : goal.slice_bounds-file-end
slice_bounds-file-end c = sym (length-take-le _ _ c.requires.1)

pub returns-then-n-gt-INPUT_LIMIT : goal.returns-then-n-gt-INPUT_LIMIT
returns-then-n-gt-INPUT_LIMIT c =
    let file = take c.args.n c.args.input.now in
    let l = length-take-le c.args.n c.args.input.now c.requires.1 in
    let W = c.list.ensures in
    let t = prints_too_long file (omega (arith, l, c.if-n-gt-INPUT_LIMIT.true)) in
    (omega (arith, W.1), wrote_front _ _ _ _ W.0 (omega (arith, W.1, c.requires.3)) ∙ sym t)

pub lay_front-front-requires : goal.lay_front-front-requires
lay_front-front-requires c =
    let r = (opens c.in-Ok.ensures).room in
    (r.title_fits, r.time_fits, omega (arith, r.place_least, r.inside), omega (arith, r.title_fits, r.time_fits, c.requires.2))

pub gather-gathered-requires : goal.gather-gathered-requires
gather-gathered-requires c =
    let l = length-take-le c.args.n c.args.input.now c.requires.1 in
    let r = (opens c.in-Ok.ensures).room in
    let f = c.lay_front-front.ensures.answer in
    (omega (arith, l, c.if-n-gt-INPUT_LIMIT.false), omega (arith, r.title_fits, r.time_fits, f), omega (arith, c.requires.3))

pub returns-in-Err : goal.returns-in-Err
returns-in-Err c =
    let file = take c.args.n c.args.input.now in
    let l = length-take-le c.args.n c.args.input.now c.requires.1 in
    let W = c.list-in-Err.ensures in
    let e = c.in-Err.ensures.same in
    let t = prints_shut file (omega (arith, l, c.if-n-gt-INPUT_LIMIT.false)) (sym e) in
    (omega (arith, W.1), wrote_front _ _ _ _ W.0 (omega (arith, W.1, c.requires.3)) ∙ sym t)

pub returns-in-Ok : goal.returns-in-Ok
returns-in-Ok c =
    let l = length-take-le c.args.n c.args.input.now c.requires.1 in
    let bytes = bytes_take c.args.n c.args.input.now (λ i. (c.shared_slice_known-1.given i).fits) in
    let O = opens c.in-Ok.ensures in
    let F = c.lay_front-front in
    let P = c.stop_text.ensures in
    let t = stepped_text O (omega (arith, l, c.if-n-gt-INPUT_LIMIT.false)) c.args.sheet.now (F.ensures.answer, F.ensures.sheet) (omega (arith, F.auto, c.requires.2)) c.gather-gathered.new.sheet in
    (P.0, P.1 ∙ t bytes (omega (arith, F.auto, c.gather-gathered.auto, c.requires.2)) _ c.gather-gathered.ensures)
