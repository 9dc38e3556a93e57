use Rattle.format.specs.Sheet.{dimension_bytes}
use Rattle.format.specs.declared.Dimensions.{Dimensions}
use native.Mathlib.Omega.{arith}
use mathlib.Core.Path.{◌∙◌, ap}
use mathlib.Core.List.{List, append_assoc, ◌++◌}
use Rattle.format.specs.Bytes.{over, to_le16}
use Rattle.plain.proofs.Stores.{over_next, four_long}
use Rattle.plain.proofs.put_narrow.Goals as goal

pub returns : goal.returns
returns c =
    let p = c.dimensions-d.result in
    let h = c.requires.1 in
    let a = c.pair-first.ensures in
    let b = c.pair-second.ensures in
    over_next c.args.out.now _ _ _ _ 4 c.put_le32.ensures (four_long _) c.put_le32-2.ensures
    (omega (arith, h))
    ∙ rw (a, b) (ap (λ (x : List _). over x c.args.out.now) (append_assoc (to_le16 p.left) (to_le16 p.right) (to_le16 p.up ++ to_le16 p.down)))
    ∙ ap (λ (q : Dimensions). over (dimension_bytes to_le16 q) c.args.out.now)
    c.dimensions-d.ensures
