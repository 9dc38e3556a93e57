-- `steplister::main` meets its contract: its arrays have the lengths that `text_of` requires. Assumes nothing.
use native.Mathlib.Omega.{arith}
use mathlib.Core.Path.{sym}
use lib.Seq.{length-take-le}
use Rattle.steplister.proofs.main.Goals as goal

pub text_of-size-requires : goal.text_of-size-requires
text_of-size-requires c =
    let n = c.read_full-n in
    (omega (arith, n.auto), omega (arith, n.ensures), omega arith, omega arith)

pub slice_bounds-out-end : goal.slice_bounds-out-end
slice_bounds-out-end c = omega (arith, c.text_of-size.auto)

pub slice_bounds-write_all-end : goal.slice_bounds-write_all-end
slice_bounds-write_all-end c = sym (length-take-le _ _ (omega (arith, c.text_of-size.auto)))
