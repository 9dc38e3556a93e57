-- `layout::put_start` meets its contract. Assumes nothing.
use mathlib.Core.Path.{ap, ◌∙◌}
use mathlib.Core.List.{List}
use Prim.Native.Nat.{ℕ}
use Rattle.format.specs.Bytes.{over}
use Rattle.layout.proofs.Laws.{start_word}
use borrow.Author.Rules.{rules}
use Rattle.layout.proofs.put_start.Goals as goal

pub returns : goal.returns
returns c =
    let k = c.from-k.ensures in
    let b = c.from-b.ensures in
    c.put_be32.ensures ∙ ap (λ (x : List ℕ). over x c.args.out.now)
    (rw (k, b) (start_word _ _ _ c.requires.0 (search rules) (search rules)))
