-- `judge::our_header` meets its contract. Assumes nothing.
use native.Mathlib.Omega.{arith}
use mathlib.Core.Path.{sym, ap, ◌∙◌}
use lib.Seq.{length-take-le}
use Rattle.judge.proofs.One.{front_of_lem}
use Rattle.format.specs.Bytes.{same}
use Rattle.judge.proofs.Whole.{header_told}
use Rattle.judge.proofs.our_header.Goals as goal

pub slice_bounds-same_bytes-end : goal.slice_bounds-same_bytes-end
slice_bounds-same_bytes-end c =
    sym (length-take-le _ _ c.requires.room.inside)

pub slice_bounds-same_bytes-end-2 : goal.slice_bounds-same_bytes-end-2
slice_bounds-same_bytes-end-2 c =
    let P = c.put_header-n.ensures in
    let w = c.room-room.ensures in
    sym (length-take-le _ _ (omega (arith, P.most, P.kept, w)))

pub returns : goal.returns
returns c =
    let P = c.put_header-n.ensures in
    let w = c.room-room.ensures in
    let f = front_of_lem P (omega (arith, P.most, w)) in
    header_told c.args.file.now c.args.old (c.same_bytes.ensures ∙ ap (same _) f)
