-- `judge::put_codes` meets its contract. Assumes nothing.
use native.Mathlib.Omega.{arith}
use mathlib.Core.Path.{sym}
use lib.Seq.{length-take-le}
use Rattle.judge.proofs.put_codes.Goals as goal

pub slice_bounds-put_record-end : goal.slice_bounds-put_record-end
slice_bounds-put_record-end c =
    sym (length-take-le _ _ (omega (arith, c.requires.0, c.requires.1)))

pub put_record-requires : goal.put_record-requires
put_record-requires c =
    let l = length-take-le c.args.from.len c.args.last.now (omega (arith, c.requires.0, c.requires.1)) in
    (omega (arith, l, c.requires.0), c.requires.2)

pub returns : goal.returns
returns c = c.put_record.ensures
