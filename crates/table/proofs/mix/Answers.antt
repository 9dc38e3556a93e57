-- `table::mix` meets its contract. Assumes nothing.
use lib.Bits.{xor_lt}
use native.Mathlib.Omega.{arith}
use Rattle.table.specs.Hash.{mix_of}
use Rattle.table.proofs.Hashing.{product_fits}
use borrow.Author.Rules.{rules}
use Rattle.table.proofs.mix.Goals as goal

pub overflow_cast-m : goal.overflow_cast-m
overflow_cast-m c =
    omega (arith, xor_lt 32 c.args.h c.args.w c.ranges.h.fits c.ranges.w.fits)

pub overflow_mul-m : goal.overflow_mul-m
overflow_mul-m c =
    omega (arith, product_fits _ _ (xor_lt 32 c.args.h c.args.w c.ranges.h.fits c.ranges.w.fits) c.ranges.k.fits)

pub overflow_cast-result : goal.overflow_cast-result
overflow_cast-result c =
    omega (arith, product_fits _ _ (xor_lt 32 c.args.h c.args.w c.ranges.h.fits c.ranges.w.fits) c.ranges.k.fits)

pub returns : goal.returns
unfolding mix_of
returns c = search rules
