-- `edit::put_tail` meets its contract. Assumes nothing.
use Prim.Native.Nat.{◌+◌}
use native.Mathlib.Omega.{arith}
use lib.ListN.{drop, length-drop}
use borrow.Author.Rules.{part_to_end}
use Rattle.edit.proofs.Tail.{tail_finished}
use Rattle.edit.proofs.put_tail.Goals as goal

pub lay-requires : goal.lay-requires
lay-requires c = (
  c.requires.2,
  simp (part_to_end, length-drop)
      (omega (arith, c.requires.0, c.requires.1)),
)

pub returns : goal.returns
returns c =
    tail_finished c.args.out.now (drop c.args.at c.args.file.now)
    (record { bytes = c.args.count.bytes; records = c.args.count.records + c.args.left; fault = c.args.count.fault })
    (simp part_to_end at c.lay.ensures) _ (simp part_to_end at c.settle.ensures)
