-- `label::kept_after` meets its contract. Assumes nothing.
use native.Mathlib.Omega.{arith}
use Prim.Native.Nat.{◌+◌, ◌≤◌, ◌<◌}
use borrow.Author.Tests.{lt-ltb, le-ltb}
use Rattle.format.specs.Bytes.{pick}
use Rattle.label.specs.Seen.{kept_after}
use Rattle.label.proofs.kept_after.Goals as goal

pub returns-then-len-off : goal.returns-then-len-off
unfolding kept_after pick
returns-then-len-off c =
    let h : c.args.len < c.args.off + c.args.least = omega arith in
    (simp (lt-ltb _ _ h), tt)

pub returns-then-keep-least : goal.returns-then-keep-least
unfolding kept_after pick
returns-then-keep-least c =
    let h : c.args.len < c.args.off + c.args.least = omega arith in
    (simp (lt-ltb _ _ h), tt)

pub returns : goal.returns
unfolding kept_after pick
returns c =
    let h : c.args.off + c.args.least ≤ c.args.len = omega arith in
    (simp (le-ltb _ _ h), omega arith)
