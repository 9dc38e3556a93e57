-- `measure::measure` meets its contract. Assumes nothing.
use Rattle.std.specs.Prelude.{Result, Ok}
use Rattle.format.specs.declared.Fault.{Fault}
use Rattle.measure.specs.declared.Measured.{Measured}
use Rattle.measure.specs.declared.Measured.TheVariants.{Styled, Moved, Passes, Made}
use native.Mathlib.Omega.{arith}
use Prim.Native.Nat.{ℕ, ◌-◌}
use mathlib.Core.List.{List}
use mathlib.Core.Bool.{Bool}
use Rattle.format.specs.Reading.{next}
use Rattle.measure.specs.Measures.{ComesIn}
use mathlib.Core.Path.{◌≡◌, ◌∙◌}
use lib.ListN.{length, take, drop}
use Rattle.measure.proofs.Turn.{Going, going_first, found, ends_bad, ends_end, going_on, going_made, Within, item_within}
use Rattle.measure.proofs.measure.Goals as goal

-- the item's bytes are there
within_at : (file : List ℕ) (place front at out records len style : ℕ) (placed : Bool) → Going file place front at out records len style placed → (x : Result Measured Fault) (m r : Measured)
    → x ≡ Ok m → m ≡ r → ComesIn x len style placed (λ st. next 8 (take (length file - at) (drop at file)) st) → Within (length file) at (Ok r)
within_at file place front at out records len style placed G x m r e i f = item_within file place front at out records len style placed G (Ok r) (rw (e, i) at f)

pub loop-item-init : goal.loop-item-init
loop-item-init c = going_first _ _ _ c.requires.1

pub measure_item-requires : goal.measure_item-requires
measure_item-requires c = c.loop-item.invariant.short

pub returns-in-Err : goal.returns-in-Err
returns-in-Err c =
    let G = c.loop-item.invariant in
    let f = rw c.in-Err.is at c.measure_item.ensures in
    c.refused_at.ensures ∙ ends_bad _ _ _ _ _ _ _ _ _ G _ f.1

pub ended-requires : goal.ended-requires
ended-requires c = omega (arith, c.loop-item.invariant.inside, c.requires.0)

pub returns-in-End : goal.returns-in-End
returns-in-End c =
    let G = c.loop-item.invariant in
    let f = rw (c.in-Ok.is, c.in-End.is) at c.measure_item.ensures in
    c.ended.ensures ∙ ends_end _ _ _ _ _ _ _ _ _ G f.1

pub overflow_add-at : goal.overflow_add-at
overflow_add-at c =
    let p = c.requires.0 in
    omega (arith, within_at _ _ _ _ _ _ _ _ _ c.loop-item.invariant c.measure_item.result _ (Styled _) c.in-Ok.is c.in-Styled.is c.measure_item.ensures.1, p)

pub loop-item-smaller-in-Styled : goal.loop-item-smaller-in-Styled
loop-item-smaller-in-Styled c =
    let p = c.requires.0 in
    omega (arith, within_at _ _ _ _ _ _ _ _ _ c.loop-item.invariant c.measure_item.result _ (Styled _) c.in-Ok.is c.in-Styled.is c.measure_item.ensures.1, p)

pub loop-item-preserved-in-Styled : goal.loop-item-preserved-in-Styled
loop-item-preserved-in-Styled c =
    let G = c.loop-item.invariant in
    let f = rw (c.in-Ok.is, c.in-Styled.is) at c.measure_item.ensures in
    going_on _ _ _ _ _ _ _ _ _ G _ _ _ _ (found _ _ _ _ _ _ _ _ _ G (Ok (Styled _)) f.1) G.short

pub overflow_add-at-in-Moved : goal.overflow_add-at-in-Moved
overflow_add-at-in-Moved c =
    omega (arith, within_at _ _ _ _ _ _ _ _ _ c.loop-item.invariant c.measure_item.result _ Moved c.in-Ok.is c.in-Moved.is c.measure_item.ensures.1, c.requires.0)

pub loop-item-smaller-in-Moved : goal.loop-item-smaller-in-Moved
loop-item-smaller-in-Moved c =
    omega (arith, within_at _ _ _ _ _ _ _ _ _ c.loop-item.invariant c.measure_item.result _ Moved c.in-Ok.is c.in-Moved.is c.measure_item.ensures.1, c.requires.0)

pub loop-item-preserved-in-Moved : goal.loop-item-preserved-in-Moved
loop-item-preserved-in-Moved c =
    let G = c.loop-item.invariant in
    let f = rw (c.in-Ok.is, c.in-Moved.is) at c.measure_item.ensures in
    going_on _ _ _ _ _ _ _ _ _ G _ _ _ _ (found _ _ _ _ _ _ _ _ _ G (Ok Moved) f.1) G.short

pub overflow_add-at-in-Passes : goal.overflow_add-at-in-Passes
overflow_add-at-in-Passes c =
    let p = c.requires.0 in
    omega (arith, within_at _ _ _ _ _ _ _ _ _ c.loop-item.invariant c.measure_item.result _ (Passes _) c.in-Ok.is c.in-Passes.is c.measure_item.ensures.1, p)

pub loop-item-smaller-in-Passes : goal.loop-item-smaller-in-Passes
loop-item-smaller-in-Passes c =
    let p = c.requires.0 in
    omega (arith, within_at _ _ _ _ _ _ _ _ _ c.loop-item.invariant c.measure_item.result _ (Passes _) c.in-Ok.is c.in-Passes.is c.measure_item.ensures.1, p)

pub loop-item-preserved-in-Passes : goal.loop-item-preserved-in-Passes
loop-item-preserved-in-Passes c =
    let G = c.loop-item.invariant in
    let f = rw (c.in-Ok.is, c.in-Passes.is) at c.measure_item.ensures in
    going_on _ _ _ _ _ _ _ _ _ G _ _ _ _ (found _ _ _ _ _ _ _ _ _ G (Ok (Passes _)) f.1) G.short

pub overflow_add-out : goal.overflow_add-out
overflow_add-out c =
    let G = c.loop-item.invariant in
    let f = rw (c.in-Ok.is, c.in-Made.is) at c.measure_item.ensures in
    omega (arith, G.out_few, G.inside, f.0.1, c.requires)

pub overflow_add-records : goal.overflow_add-records
overflow_add-records c =
    let G = c.loop-item.invariant in
    let f = rw (c.in-Ok.is, c.in-Made.is) at c.measure_item.ensures in
    omega (arith, G.records_few, G.inside, c.requires)

pub overflow_add-at-in-Made : goal.overflow_add-at-in-Made
overflow_add-at-in-Made c =
    let p = c.requires.0 in
    omega (arith, within_at _ _ _ _ _ _ _ _ _ c.loop-item.invariant c.measure_item.result _ (Made _ _ _) c.in-Ok.is c.in-Made.is c.measure_item.ensures.1, p)

pub loop-item-smaller : goal.loop-item-smaller
loop-item-smaller c =
    let p = c.requires.0 in
    omega (arith, within_at _ _ _ _ _ _ _ _ _ c.loop-item.invariant c.measure_item.result _ (Made _ _ _) c.in-Ok.is c.in-Made.is c.measure_item.ensures.1, p)

pub loop-item-preserved : goal.loop-item-preserved
loop-item-preserved c =
    let G = c.loop-item.invariant in
    let f = rw (c.in-Ok.is, c.in-Made.is) at c.measure_item.ensures in
    going_made _ _ _ _ _ _ _ _ _ G _ _ _ (found _ _ _ _ _ _ _ _ _ G (Ok (Made _ _ _)) f.1) f.0.0 f.0.1
