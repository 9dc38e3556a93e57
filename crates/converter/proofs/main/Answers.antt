-- `converter::main` meets its contract: its arrays have the lengths that `output_of` requires. Assumes nothing.
use native.Mathlib.Omega.{arith}
use mathlib.Core.Path.{sym}
use lib.Seq.{length-take-le}
use Rattle.converter.proofs.main.Goals as goal

pub output_of-size-requires : goal.output_of-size-requires
output_of-size-requires c =
    let k = c.read_full-n.auto.buf in
    let n = c.read_full-n.ensures in
    (omega arith, omega (arith, n), omega arith, omega arith)

pub slice_bounds-write_all-end : goal.slice_bounds-write_all-end
slice_bounds-write_all-end c =
    let k = c.output_of-size.auto.sheet in
    sym (length-take-le _ _ (omega (arith, k, c.output_of-size.ensures.0)))
