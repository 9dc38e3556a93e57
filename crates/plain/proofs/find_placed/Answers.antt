-- `plain::find_placed` meets its contract. Assumes nothing.
use native.Mathlib.Omega.{arith}
use mathlib.Core.Path.{sym, ◌∙◌}
use Rattle.format.proofs.SheetLaws.{frame}
use Rattle.plain.proofs.Placing.{Framed, framed_of, head_fits, placed_by}
use Rattle.plain.proofs.find_placed.Goals as goal

pub with_label-requires : goal.with_label-requires
with_label-requires c =
    let z : Framed c.args.s.now c.size_of-n.result = framed_of c.is_framed.ensures c.if-not-is_framed.false c.get_be16.ensures.0 c.size_of-n.ensures in
    (z.there, head_fits z c.args.mark c.args.position _ 0 (c.in_ok-found.ensures.3 0))

pub returns : goal.returns
returns c =
    let z : Framed c.args.s.now c.size_of-n.result = framed_of c.is_framed.ensures c.if-not-is_framed.false c.get_be16.ensures.0 c.size_of-n.ensures in
    placed_by z c.args.mark c.args.position c.with_label.result _ c.args.last.now c.in_ok-found.ensures c.with_label.ensures

pub get_be16-requires : goal.get_be16-requires
get_be16-requires c =
    omega (arith, frame _ (sym c.is_framed.ensures ∙ c.if-not-is_framed.false))

pub placed_head-requires : goal.placed_head-requires
placed_head-requires c =
    (((let it : Framed c.args.s.now c.size_of-n.result = framed_of c.is_framed.ensures c.if-not-is_framed.false c.get_be16.ensures.0 c.size_of-n.ensures in it)).size_is, ((let it : Framed c.args.s.now c.size_of-n.result = framed_of c.is_framed.ensures c.if-not-is_framed.false c.get_be16.ensures.0 c.size_of-n.ensures in it)).frame_is)
