-- `reach::begins_with` meets its contract. Assumes nothing.
use native.Mathlib.Omega.{arith}
use Prim.Native.Nat.{ℕ, ◌-◌}
use mathlib.Core.Path.{◌≡◌, sym, subst}
use lib.ListN.{length, take}
use Rattle.format.specs.Bytes.{same}
use Rattle.format.specs.Reach.{begins}
use Rattle.format.proofs.ReachLaws.{short_begins}
use Rattle.reach.proofs.begins_with.Goals as goal

pub returns-then-s-n : goal.returns-then-s-n
returns-then-s-n c = sym (short_begins _ _ c.if-s-n.true)

pub returns : goal.returns
unfolding begins
returns c =
    let z : length c.args.name.now - 0 ≡ length c.args.name.now = omega arith in
    subst (λ (n : ℕ). c.same_bytes.result ≡ same (take n c.args.s.now) c.args.name.now) z c.same_bytes.ensures
