use native.Mathlib.Omega.{arith}
use lib.Bits.{bit_xor}
use lib.Count.{trailing_le}
use Rattle.wire.proofs.Tells.{eight_tell}
use Rattle.wire.proofs.same_eight.Goals as goal

pub returns : goal.returns
returns c =
    let x = c.get_le64-x.result in
    let y = c.get_le64-y.result in
    (rw (c.get_le64-x.ensures, c.get_le64-y.ensures) at (eight_tell x y), omega (arith, trailing_le 64 (bit_xor x y)))

pub overflow_cast-result : goal.overflow_cast-result
overflow_cast-result c =
    omega (arith, trailing_le 64 (bit_xor c.get_le64-x.result c.get_le64-y.result))
