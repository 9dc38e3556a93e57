-- `wire::copy_exactly` meets its contract. Assumes nothing.
use mathlib.Core.Path.{refl}
use lib.Seq.{length-take-le}
use Rattle.format.specs.Bytes.{over}
use Rattle.wire.proofs.copy_exactly.Goals as goal

pub returns : goal.returns
unfolding over
returns g c =
    let whole = rw c.unwrap.ensures at c.as_array.ensures.cases in
    let n = length-take-le g.row.N c.args.src.now c.requires.0 in
    rw (c.copy_from_slice.ensures.after, whole.same, n) refl
