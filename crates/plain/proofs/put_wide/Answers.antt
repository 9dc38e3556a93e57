use Rattle.format.specs.Sheet.{dimension_bytes}
use Rattle.format.specs.declared.Dimensions.{Dimensions}
use native.Mathlib.Omega.{arith}
use mathlib.Core.Path.{◌∙◌, ap}
use mathlib.Core.List.{List, append_assoc, ◌++◌}
use lib.ListN.{length-append}
use Rattle.format.specs.Bytes.{over, to_le32}
use Rattle.plain.proofs.Stores.{over_next, four_long}
use Rattle.plain.proofs.put_wide.Goals as goal

pub returns : goal.returns
returns c =
    let p = c.dimensions-d.result in
    let h = c.requires.1 in
    over_next c.args.out.now _ _ ((to_le32 p.left ++ to_le32 p.right) ++ to_le32 p.up) (to_le32 p.down) 12
    (over_next c.args.out.now _ _ (to_le32 p.left ++ to_le32 p.right) (to_le32 p.up) 8
    (over_next c.args.out.now _ _ (to_le32 p.left) (to_le32 p.right) 4
    c.put_le32.ensures
    (four_long p.left) c.put_le32-2.ensures (omega (arith, h)))
    (simp (length-append, four_long)) c.put_le32-3.ensures (omega (arith, h)))
    (simp (length-append, four_long)) c.put_le32-4.ensures (omega (arith, h))
    ∙ ap (λ (x : List _). over x c.args.out.now) (simp append_assoc)
    ∙ ap (λ (q : Dimensions). over (dimension_bytes to_le32 q) c.args.out.now)
    c.dimensions-d.ensures
