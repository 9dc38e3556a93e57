-- `scan::next_record` meets its contract. Assumes nothing.
use native.Mathlib.Omega.{arith}
use borrow.Author.Rules.{part_to_end}
use Rattle.std.specs.Prelude.{Ok}
use Rattle.item.specs.declared.Step.TheVariants.{On, Made}
use Rattle.scan.proofs.Walk.{going_first, finds_bad, finds_ended, item_within, going_on, finds_record}
use Rattle.scan.proofs.next_record.Goals as goal

pub loop-fault-init : goal.loop-fault-init
loop-fault-init c =
    going_first _ _ _ _ c.requires.0 c.requires.1 c.requires.2

pub take_item-requires : goal.take_item-requires
take_item-requires c =
    (c.loop-fault.invariant.short, c.loop-fault.invariant.whole)

pub returns-in-Err : goal.returns-in-Err
returns-in-Err c =
    rw c.at.ensures (finds_bad _ _ _ _ _ _ _ _ c.loop-fault.invariant _ _ c.in-Err.ensures.0)

pub ended-requires : goal.ended-requires
ended-requires c =
    omega (arith, c.loop-fault.invariant.inside, c.well_formed)

pub returns-in-Ok-End : goal.returns-in-Ok-End
returns-in-Ok-End c =
    finds_ended _ _ _ _ _ _ _ _ c.loop-fault.invariant _
    (rw c.in-Ok-End.field-0-is at c.in-Ok-End.ensures.0) (simp part_to_end at c.ended.ensures)

pub overflow_add-at : goal.overflow_add-at
overflow_add-at c =
    let z = item_within _ _ _ _ _ _ _ _ c.loop-fault.invariant (Ok (On _ _ _)) _ (rw c.in-Ok-On.field-0-is at c.in-Ok-On.ensures.0) in omega arith

pub loop-fault-smaller : goal.loop-fault-smaller
loop-fault-smaller c =
    let z = item_within _ _ _ _ _ _ _ _ c.loop-fault.invariant (Ok (On _ _ _)) _ (rw c.in-Ok-On.field-0-is at c.in-Ok-On.ensures.0) in omega arith

pub loop-fault-preserved : goal.loop-fault-preserved
loop-fault-preserved c =
    going_on _ _ _ _ _ _ _ _ c.loop-fault.invariant _ _ _ _
    (rw c.in-Ok-On.field-0-is at c.in-Ok-On.ensures.0)

pub overflow_add-place : goal.overflow_add-place
overflow_add-place c =
    let z = item_within _ _ _ _ _ _ _ _ c.loop-fault.invariant (Ok (Made _ _ _ _ _)) _ (rw c.in-Ok-Made.field-0-is at c.in-Ok-Made.ensures.0) in omega arith

pub returns-in-Ok-Made : goal.returns-in-Ok-Made
returns-in-Ok-Made c =
    finds_record _ _ _ _ _ _ _ _ c.loop-fault.invariant _ _ _ _ _ _
    (rw c.in-Ok-Made.field-0-is at c.in-Ok-Made.ensures.0)
