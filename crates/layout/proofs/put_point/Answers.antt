-- `layout::put_point` meets its contract. Assumes nothing.
use mathlib.Core.Path.{ap, ◌∙◌}
use mathlib.Core.List.{List}
use Prim.Native.Nat.{ℕ, ◌+◌}
use Rattle.format.specs.Bytes.{to_be32}
use Rattle.wire.specs.Laid.{laid}
use Rattle.layout.proofs.Laws.{point_laid}
use Rattle.layout.proofs.put_point.Goals as goal

pub returns : goal.returns
returns c =
    let e1 = c.lay_be32.ensures in
    let e2 = c.lay_be32-2.ensures ∙ ap (λ (d : List ℕ). laid d (c.args.k + 4) (to_be32 c.args.p.y)) e1 in
    c.lay_be32-3.ensures ∙ ap (λ (d : List ℕ). laid d (c.args.k + 8) (to_be32 c.args.p.z)) e2 ∙ point_laid c.args.out.now c.args.k c.args.p c.requires
