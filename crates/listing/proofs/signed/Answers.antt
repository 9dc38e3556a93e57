-- `listing::signed` meets its contract: a number below 2 ^ 31 is its digits, another a minus and the digits of what is left to 2 ^ 32. Assumes nothing.
use native.Mathlib.Omega.{arith}
use Rattle.listing.proofs.Stores.{put_then, put_as}
use Rattle.listing.proofs.Escapes.{signed_plus, signed_minus}
use Rattle.listing.proofs.signed.Goals as goal

pub returns-then-size-lt2147483648 : goal.returns-then-size-lt2147483648
returns-then-size-lt2147483648 c =
    put_as c.decimal.ensures (omega arith) (signed_plus _ c.if-size-lt2147483648.true)

pub returns : goal.returns
returns c =
    put_as (put_then c.put-k.ensures c.decimal-2.ensures) (omega arith)
    (signed_minus _ c.if-size-lt2147483648.false)
