-- `plain::find` meets its contract. Assumes nothing.
use native.Mathlib.Omega.{arith}
use mathlib.Core.Path.{sym, ◌∙◌}
use Rattle.format.proofs.SheetLaws.{frame}
use Rattle.plain.proofs.Placing.{Framed, framed_of, head_fits, found_by}
use Rattle.plain.proofs.find.Goals as goal

pub with_label-requires : goal.with_label-requires
with_label-requires c =
    let z : Framed c.args.s.now c.size_of-n.result = framed_of c.is_framed.ensures c.if-not-is_framed.false c.get_be16.ensures.0 c.size_of-n.ensures in
    (z.there, head_fits z _ _ _ c.args.version c.in_ok-found.ensures)

pub returns : goal.returns
returns c =
    let z : Framed c.args.s.now c.size_of-n.result = framed_of c.is_framed.ensures c.if-not-is_framed.false c.get_be16.ensures.0 c.size_of-n.ensures in
    found_by z c.args.mark c.args.position c.args.version c.with_label.result _ c.args.last.now c.in_ok-found.ensures c.with_label.ensures

pub get_be16-requires : goal.get_be16-requires
get_be16-requires c =
    omega (arith, frame _ (sym c.is_framed.ensures ∙ c.if-not-is_framed.false))

pub head_of-requires : goal.head_of-requires
head_of-requires c =
    (((let it : Framed c.args.s.now c.size_of-n.result = framed_of c.is_framed.ensures c.if-not-is_framed.false c.get_be16.ensures.0 c.size_of-n.ensures in it)).size_is, ((let it : Framed c.args.s.now c.size_of-n.result = framed_of c.is_framed.ensures c.if-not-is_framed.false c.get_be16.ensures.0 c.size_of-n.ensures in it)).frame_is)
