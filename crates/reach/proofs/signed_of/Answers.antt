-- `reach::signed_of` meets its contract. Assumes nothing.
use Rattle.reach.proofs.Numbers.{low_bits, high_fits, high_bits}
use Rattle.reach.proofs.signed_of.Goals as goal

pub returns-then-n-lt2147483648 : goal.returns-then-n-lt2147483648
returns-then-n-lt2147483648 c = low_bits _ c.if-n-lt2147483648.true

pub overflow_sub-result : goal.overflow_sub-result
overflow_sub-result c = high_fits _ c.if-n-lt2147483648.false

pub returns : goal.returns
returns c = high_bits _ c.if-n-lt2147483648.false
