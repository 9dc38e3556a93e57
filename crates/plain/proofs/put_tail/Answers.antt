use native.Mathlib.Omega.{arith}
use Prim.Native.Nat.{ℕ, ◌+◌, ◌-◌, ◌≤◌}
use mathlib.Core.Path.{◌≡◌}
use mathlib.Core.List.{List}
use borrow.Author.Rules.{part_to_end}
use lib.ListN.{length, take, drop, length-drop}
use Rattle.plain.specs.Plainly.{label_at, tail_size}
use Rattle.plain.specs.declared.Form.{Form}
use Rattle.plain.proofs.put_tail.Goals as goal

-- the record is there up to its label, and there is room for what ends its codes
room_at : (g f : Form) (s out : List ℕ) → g ≡ f → (label_at g ≤ length s) × (tail_size g ≤ length out)
    → (label_at f ≤ length s) × (tail_size f ≤ length out)
room_at g f s out e h = rw e at h

-- and so m bytes from byte k on, and room for j
part_at_lem : (g f : Form) (s out : List ℕ) → g ≡ f → (label_at g ≤ length s) × (tail_size g ≤ length out)
    → (k m j : ℕ) → k + m ≤ label_at f → j ≤ tail_size f
    → (m ≤ length (take (length s - k) (drop k s))) × (j ≤ length out)
part_at_lem g f s out e r k m j a b =
    let h = room_at g f s out e r in (simp (part_to_end, length-drop) (omega (arith, h.0, a)), omega (arith, h.1, b))

pub slice_bounds-put_place-count : goal.slice_bounds-put_place-count
slice_bounds-put_place-count c =
    omega (arith, room_at _ _ c.args.s.now c.args.out.now c.in-Leg.is c.requires)

pub slice_bounds-put_place-start : goal.slice_bounds-put_place-start
slice_bounds-put_place-start c =
    omega (arith, room_at _ _ c.args.s.now c.args.out.now c.in-Leg.is c.requires)

pub put_place-requires : goal.put_place-requires
put_place-requires c =
    part_at_lem _ _ c.args.s.now c.args.out.now c.in-Leg.is c.requires 22 12 12 (omega arith) (omega arith)

pub slice_bounds-put_place-count-in-Station : goal.slice_bounds-put_place-count-in-Station
slice_bounds-put_place-count-in-Station c =
    omega (arith, room_at _ _ c.args.s.now c.args.out.now c.in-Station.is c.requires)

pub slice_bounds-put_place-start-in-Station : goal.slice_bounds-put_place-start-in-Station
slice_bounds-put_place-start-in-Station c =
    omega (arith, room_at _ _ c.args.s.now c.args.out.now c.in-Station.is c.requires)

pub put_place-requires-in-Station : goal.put_place-requires-in-Station
put_place-requires-in-Station c =
    part_at_lem _ _ c.args.s.now c.args.out.now c.in-Station.is c.requires 4 12 12 (omega arith) (omega arith)

pub slice_bounds-put_narrow-count : goal.slice_bounds-put_narrow-count
slice_bounds-put_narrow-count c =
    omega (arith, room_at _ _ c.args.s.now c.args.out.now c.in-Narrow.is c.requires)

pub slice_bounds-put_narrow-start : goal.slice_bounds-put_narrow-start
slice_bounds-put_narrow-start c =
    omega (arith, room_at _ _ c.args.s.now c.args.out.now c.in-Narrow.is c.requires)

pub put_narrow-requires : goal.put_narrow-requires
put_narrow-requires c =
    part_at_lem _ _ c.args.s.now c.args.out.now c.in-Narrow.is c.requires 9 16 8 (omega arith) (omega arith)

pub slice_bounds-put_wide-count : goal.slice_bounds-put_wide-count
slice_bounds-put_wide-count c =
    omega (arith, room_at _ _ c.args.s.now c.args.out.now c.in-Wide.is c.requires)

pub slice_bounds-put_wide-start : goal.slice_bounds-put_wide-start
slice_bounds-put_wide-start c =
    omega (arith, room_at _ _ c.args.s.now c.args.out.now c.in-Wide.is c.requires)

pub put_wide-requires : goal.put_wide-requires
put_wide-requires c =
    part_at_lem _ _ c.args.s.now c.args.out.now c.in-Wide.is c.requires 9 16 16 (omega arith) (omega arith)

pub returns-in-Leg : goal.returns-in-Leg
returns-in-Leg c =
    rw c.in-Leg.is (simp part_to_end at c.put_place.ensures)

pub returns-in-Station : goal.returns-in-Station
returns-in-Station c =
    rw c.in-Station.is (simp part_to_end at c.put_place-in-Station.ensures)

pub returns-in-Narrow : goal.returns-in-Narrow
returns-in-Narrow c =
    rw c.in-Narrow.is (simp part_to_end at c.put_narrow.ensures)

pub returns-in-Wide : goal.returns-in-Wide
returns-in-Wide c =
    rw c.in-Wide.is (simp part_to_end at c.put_wide.ensures)
