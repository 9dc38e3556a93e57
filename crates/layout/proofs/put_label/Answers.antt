-- `layout::put_label` meets its contract. Assumes nothing.
use native.Mathlib.Omega.{arith}
use mathlib.Core.Path.{sym}
use lib.ListN.{length-take}
use lib.Seq.{length-take-le}
use Rattle.layout.proofs.put_label.Goals as goal

pub slice_bounds-lay-end : goal.slice_bounds-lay-end
slice_bounds-lay-end c =
    sym (length-take-le c.args.len c.args.bytes.now (omega (arith, c.requires)))

pub lay-requires : goal.lay-requires
lay-requires c =
    simp length-take (omega (arith, c.requires))
