-- `v7::unable` meets its contract. Assumes nothing.
use Prim.Native.Nat.{◌≤◌, ◌<◌}
use native.Mathlib.Omega.{arith}
use borrow.Author.Tests.{lt-ltb, le-ltb}
use Rattle.v7.proofs.unable.Goals as goal

pub returns-then-style-gt0 : goal.returns-then-style-gt0
returns-then-style-gt0 c =
    let h : 0 < c.in-Leg.style = omega (arith, c.if-style-gt0.true) in
    rw (c.in-Leg.is, lt-ltb 0 _ h)

pub returns-else-style-gt0 : goal.returns-else-style-gt0
returns-else-style-gt0 c =
    let h : c.in-Leg.style ≤ 0 = omega (arith, c.if-style-gt0.false) in
    rw (c.in-Leg.is, le-ltb 0 _ h)

pub returns-in-Station : goal.returns-in-Station
returns-in-Station c = rw c.in-Station.is
