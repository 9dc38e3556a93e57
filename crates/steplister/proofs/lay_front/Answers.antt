-- `steplister::lay_front` meets its contract. Assumes nothing.
use native.Mathlib.Omega.{arith}
use Prim.Native.Nat.{◌+◌, ◌-◌}
use mathlib.Core.Path.{◌≡◌, refl}
use Rattle.steplister.proofs.lay_front.Goals as goal

pub returns : goal.returns
returns c =
    let z1 : 24 + c.args.title - 24 ≡ c.args.title = omega arith in
    let z2 : 24 + c.args.title + 1 + c.args.time - (24 + c.args.title + 1) ≡ c.args.time = omega arith in
    let z3 : 24 + c.args.title + 1 ≡ 25 + c.args.title = omega arith in record { answer = refl; sheet = rw (z2, z3, z1) at c.put_front.ensures }
