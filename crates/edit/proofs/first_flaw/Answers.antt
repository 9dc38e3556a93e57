-- `edit::first_flaw` meets its contract. Assumes nothing.
use native.Mathlib.Omega.{arith}
use Rattle.sheet.proofs.EntryAt.{found_size}
use Rattle.edit.proofs.NewRun.{judging_first, flaw_none, flaw_here, judging_more}
use Rattle.edit.proofs.first_flaw.Goals as goal
use Rattle.edit.proofs.first_flaw.Goals.{In-Some}

pub loop-at-init : goal.loop-at-init
loop-at-init c = judging_first _

pub returns-in_default : goal.returns-in_default
returns-in_default c =
    rw c.at.ensures (flaw_here _ _ _ c.loop-at.invariant c.loop-at-test.true c.in_default.ensures)

pub overflow_add-at : goal.overflow_add-at
overflow_add-at c =
    let z = found_size _ c.args.new.now c.loop-at.at c.loop-at-test.true _ _ _ c.in-Some.ensures in omega (arith, c.well_formed)

pub loop-at-smaller : goal.loop-at-smaller
loop-at-smaller c =
    let z = found_size _ c.args.new.now c.loop-at.at c.loop-at-test.true _ _ _ c.in-Some.ensures in omega arith

pub loop-at-preserved : goal.loop-at-preserved
loop-at-preserved c =
    judging_more _ _ _ c.loop-at.invariant c.loop-at-test.true _ _ _ c.in-Some.ensures

pub returns : goal.returns
returns c =
    flaw_none _ _ _ c.loop-at.invariant c.loop-at-test.false
