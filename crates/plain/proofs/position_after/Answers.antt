use native.Mathlib.Omega.{arith}
use Prim.Native.Nat.{ℕ, ◌≤◌}
use mathlib.Core.Path.{◌≡◌}
use mathlib.Core.List.{List}
use borrow.Author.Rules.{part_to_end}
use lib.ListN.{length, length-drop}
use Rattle.plain.specs.Plainly.{label_at}
use Rattle.plain.specs.declared.Form.{Form}
use Rattle.plain.proofs.position_after.Goals as goal

-- the record is there up to its label
head_at_lem : (g f : Form) (s : List ℕ) → g ≡ f → label_at g ≤ length s → label_at f ≤ length s
head_at_lem g f s e h = rw e at h

pub slice_bounds-point-count : goal.slice_bounds-point-count
slice_bounds-point-count c =
    omega (arith, head_at_lem _ _ c.args.s.now c.in-Leg.is c.requires)

pub slice_bounds-point-start : goal.slice_bounds-point-start
slice_bounds-point-start c =
    omega (arith, head_at_lem _ _ c.args.s.now c.in-Leg.is c.requires)

pub point-point-requires : goal.point-point-requires
point-point-requires c =
    simp (part_to_end, length-drop) (omega (arith, head_at_lem _ _ c.args.s.now c.in-Leg.is c.requires))

pub returns-in-Leg : goal.returns-in-Leg
returns-in-Leg c =
    let p = simp part_to_end at c.point-point.ensures in rw (c.in-Leg.is, p)

pub returns-in-Station : goal.returns-in-Station
returns-in-Station c =
    rw c.in-Station.is

pub returns-in-Narrow : goal.returns-in-Narrow
returns-in-Narrow c =
    rw c.in-Narrow.is

pub returns-in-Wide : goal.returns-in-Wide
returns-in-Wide c =
    rw c.in-Wide.is
