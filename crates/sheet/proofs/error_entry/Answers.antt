-- `sheet::error_entry` meets its contract. Assumes nothing.
use native.Mathlib.Omega.{arith}
use borrow.Author.Rules.{part_to_end}
use Rattle.sheet.proofs.Entries.{error_size_lem, error_whole}
use Rattle.sheet.proofs.error_entry.Goals as goal

pub returns-then-n-ne21 : goal.returns-then-n-ne21
returns-then-n-ne21 c =
    record { same = error_size_lem c.args.s.now c.args.n c.if-n-ne21.true; inside = tt }

pub returns : goal.returns
returns c =
    rw (simp part_to_end at c.traverse-traverse.ensures)
    (record {
      same = error_whole c.args.s.now c.args.n c.if-n-ne21.false;
      inside = record { from_within = omega arith; within = c.requires; short = omega arith };
    })
