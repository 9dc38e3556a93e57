-- `decimal` meets its contract: the digits of a tenth of the number, then its last one. Assumes nothing.
use native.Mathlib.Omega.{arith}
use mathlib.Core.Path.{sym}
use Rattle.listing.proofs.Stores.{put_then, put_as, put_within}
use Rattle.listing.proofs.Digits.{decimal_low, decimal_high, decimal_few}
use Rattle.listing.proofs.+decimal.Goals as goal

pub returns-then-n-lt10 : goal.returns-then-n-lt10
returns-then-n-lt10 t c = put_as c.put.ensures (omega arith) (sym (decimal_low _ c.if-n-lt10.true))

pub returns : goal.returns
returns t c =
    put_within {m = 21} (put_as (put_then c.decimal-k.ensures c.put-2.ensures)
    (omega arith) (sym (decimal_high _ c.if-n-lt10.false)))
    (decimal_few c.args.n (omega arith))
