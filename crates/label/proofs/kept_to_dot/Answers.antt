-- `label::kept_to_dot` meets its contract. Assumes nothing.
use native.Mathlib.Omega.{arith}
use Prim.Native.Nat.{◌-◌}
use mathlib.Core.Path.{◌∙◌}
use Rattle.label.proofs.Steps.{dot_short, dot_from_lem, within_more}
use Rattle.label.proofs.kept_to_dot.Goals as goal

pub returns-then-len-lt16 : goal.returns-then-len-lt16
returns-then-len-lt16 c =
    (dot_short c.args.bytes.now c.args.len c.args.n (omega (arith, c.requires)) c.if-len-lt16.true, tt)

pub returns : goal.returns
returns c =
    let e = c.nth_dot.ensures in
    (e.0 ∙ dot_from_lem c.args.bytes.now c.args.len c.args.n (omega (arith, c.requires)) c.if-len-lt16.false, within_more (c.args.len - 16) c.args.len _ (omega arith) e.1)
