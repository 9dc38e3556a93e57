use Rattle.format.specs.Sheet.{point_bytes}
use Rattle.format.specs.declared.Point.{Point}
use native.Mathlib.Omega.{arith}
use mathlib.Core.Path.{◌∙◌, ap}
use mathlib.Core.List.{List, append_assoc, ◌++◌}
use lib.ListN.{length-append}
use Rattle.format.specs.Bytes.{over, to_le32}
use Rattle.plain.proofs.Stores.{over_next, four_long}
use Rattle.plain.proofs.put_place.Goals as goal

pub returns : goal.returns
returns c =
    let p = c.point-p.result in
    let h = c.requires.1 in
    over_next c.args.out.now _ _ (to_le32 p.x ++ to_le32 p.y) (to_le32 p.z) 8
    (over_next c.args.out.now _ _ (to_le32 p.x) (to_le32 p.y) 4 c.put_le32.ensures
    (four_long p.x) c.put_le32-2.ensures (omega (arith, h)))
    (simp (length-append, four_long)) c.put_le32-3.ensures (omega (arith, h))
    ∙ ap (λ (x : List _). over x c.args.out.now) (append_assoc (to_le32 p.x) (to_le32 p.y) (to_le32 p.z))
    ∙ ap (λ (q : Point). over (point_bytes to_le32 q) c.args.out.now)
    c.point-p.ensures
