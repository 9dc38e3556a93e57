-- `judge::copy_label` meets its contract. Assumes nothing.
use native.Mathlib.Omega.{arith}
use mathlib.Core.Path.{sym}
use lib.Seq.{length-take-le}
use Rattle.judge.proofs.copy_label.Goals as goal

pub slice_bounds-swap_label-end : goal.slice_bounds-swap_label-end
slice_bounds-swap_label-end c =
    sym (length-take-le c.args.len c.args.label.now (omega (arith, c.requires.0, c.requires.1)))

pub swap_label-requires : goal.swap_label-requires
swap_label-requires c =
    let l = length-take-le c.args.len c.args.label.now (omega (arith, c.requires.0, c.requires.1)) in
    (omega arith, c.requires.2, omega (arith, l, c.requires.0))

pub returns : goal.returns
returns c = c.swap_label.ensures
