-- `layout::put_dimensions` meets its contract. Assumes nothing.
use mathlib.Core.Path.{ap, ◌∙◌}
use mathlib.Core.List.{List}
use Prim.Native.Nat.{ℕ, ◌+◌}
use Rattle.format.specs.Bytes.{to_be32}
use Rattle.wire.specs.Laid.{laid}
use Rattle.layout.proofs.Laws.{dimensions_laid}
use Rattle.layout.proofs.put_dimensions.Goals as goal

pub returns : goal.returns
returns c =
    let e1 = c.lay_be32.ensures in
    let e2 = c.lay_be32-2.ensures ∙ ap (λ (s : List ℕ). laid s
    (c.args.k + 4) (to_be32 c.args.d.right)) e1 in
    let e3 = c.lay_be32-3.ensures ∙ ap (λ (s : List ℕ). laid s (c.args.k + 8) (to_be32 c.args.d.up)) e2 in
    c.lay_be32-4.ensures ∙ ap (λ (s : List ℕ). laid s (c.args.k + 12) (to_be32 c.args.d.down)) e3 ∙ dimensions_laid c.args.out.now c.args.k c.args.d c.requires
