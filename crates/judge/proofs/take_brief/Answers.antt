-- `judge::take_brief` meets its contract. Assumes nothing.
use native.Mathlib.Omega.{arith}
use Prim.Native.Nat.{◌+◌, ◌-◌}
use mathlib.Core.Path.{◌≡◌}
use borrow.Author.Rules.{part_to_end}
use Rattle.judge.proofs.Briefly.{takes_brief}
use Rattle.judge.proofs.take_brief.Goals as goal

pub returns : goal.returns
returns c =
    let e : 2 + c.in_ok-line.line.add - 2 ≡ c.in_ok-line.line.add = omega arith in
    let K = simp (part_to_end, e) at c.relabel-m.ensures in
    let q = simp part_to_end at c.get_point-point.ensures in
    rw q (takes_brief c.args.file.now c.args.from c.args.label.now c.requires (λ i. omega (arith, c.type_inv.file i)) _ c.in-Some.is _ _
    (simp part_to_end at c.in_ok-line.ensures) _ _ K)
