-- `sha256::numbers_of` meets its contract. Assumes nothing.
use Rattle.std.proofs.Common.{◌≡◌, ℕ, ◌%◌, ◌<◌, refl, arith, rules}
use Rattle.sha256.proofs.numbers_of.Goals as goal

fits : (x y : ℕ) → x ≡ y → y < 4294967296 → x % 4294967296 ≡ y
fits x y e f = omega (arith, e, f)

pub returns : goal.returns
returns c =
    let h = c.args.run.hash in
    rw (
      fits _ _ c.from.ensures (search rules),
      fits _ _ c.from-2.ensures (search rules),
      fits _ _ c.from-3.ensures (search rules),
      fits _ _ c.from-4.ensures (search rules),
      fits _ _ c.from-5.ensures (search rules),
      fits _ _ c.from-6.ensures (search rules),
      fits _ _ c.from-7.ensures (search rules),
      fits _ _ c.from-8.ensures (search rules),
    ) refl
