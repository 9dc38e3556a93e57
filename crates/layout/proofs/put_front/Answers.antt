-- `layout::put_front` meets its contract. Assumes nothing.
use borrow.Author.Rules.{rules}
use native.Mathlib.Omega.{arith}
use Prim.Native.Nat.{ℕ, ◌+◌, ◌≤◌}
use mathlib.Core.Path.{◌≡◌, ap, ◌∙◌}
use mathlib.Core.List.{List}
use lib.ListN.{length}
use Rattle.wire.specs.Laid.{laid}
use Rattle.layout.proofs.Laws.{front_laid, front_parts}
use Rattle.layout.proofs.put_front.Goals as goal

pub returns : goal.returns
returns c =
    let head = c.front_head-head.result in
    let n : length head ≡ 7 = search rules in
    let e = c.lay-2.ensures ∙ ap (λ (x : List ℕ). laid x (7 + length c.args.title.now) c.args.time.now)
    (c.lay.ensures ∙ ap (λ (x : List ℕ). laid x 7 c.args.title.now)
    c.copy.ensures) in
    let h : length head + length c.args.title.now + length c.args.time.now ≤ length c.args.sheet.now = omega (arith, c.requires) in
    e ∙ (rw n at (front_laid c.args.sheet.now head c.args.title.now c.args.time.now h)) ∙ rw
    (c.front_head-head.ensures, front_parts)
