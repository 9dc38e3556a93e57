-- `measure::tailed` meets its contract. Assumes nothing.
use native.Mathlib.Omega.{arith}
use mathlib.Core.Logic.{inl, inr}
use Rattle.measure.proofs.Items.{tail_short, tail_long, tail_station, tail_line}
use Rattle.measure.proofs.tailed.Goals as goal
use Rattle.measure.proofs.tailed.Goals.{in-Short, in-Station, in-Line+else-not-placed}

pub returns : goal.returns
returns c =
    elim c.match-tail.branch [
      | in-Short w ↦
          elim w.in-Short.is [
            | inl x ↦ rw (x.1, w.head-is) ((c.requires, omega arith), tail_short _ _ _ _)
            | inr x ↦ rw (x.1, w.head-is) ((c.requires, omega arith), tail_long _ _ _ _)
          ]
      | in-Station w ↦ rw (w.in-Station.is, w.head-is) ((c.requires, omega arith), tail_station _ _ _ _)
      | in-Line+else-not-placed w ↦ rw (w.in-Line.is, w.head-is) ((c.requires, omega arith), tail_line _ _ _ _ w.if-not-placed.false)
    ]
