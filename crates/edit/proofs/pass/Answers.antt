-- `edit::pass` meets its contract. Assumes nothing.
use mathlib.Core.Path.{sym}
use lib.Seq.{length-take-le}
use Rattle.edit.proofs.Whole.{front_laid, pass_spliced}
use native.Mathlib.Omega.{arith}
use Rattle.edit.proofs.pass.Goals as goal

pub slice_bounds-lay-end : goal.slice_bounds-lay-end
slice_bounds-lay-end c =
    sym (length-take-le _ _ c.requires.at.cuts.before.inside.place_inside)

pub lay-requires : goal.lay-requires
lay-requires c =
    let i = c.requires.at.cuts.before.inside.place_inside in
    let l = length-take-le c.args.cut.front.at c.args.file.now i in
    (omega arith, omega (arith, l, i, c.requires.at.opens.room.file_fits))

pub put_edited-requires : goal.put_edited-requires
put_edited-requires c = (
  c.requires,
  rw c.lay.ensures (front_laid c.requires.at
      (λ i. omega (arith, c.type_inv.file i)) c.args.new.now c.args.out.now),
)

pub returns : goal.returns
returns c =
    pass_spliced c.requires.at
    (λ i. omega (arith, c.type_inv.file i)) c.args.new.now
    c.args.out.now _ _ (rw c.lay.ensures at c.put_edited.ensures)
