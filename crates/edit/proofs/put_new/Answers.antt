-- `edit::put_new` meets its contract. Assumes nothing.
use native.Mathlib.Omega.{arith}
use Rattle.sheet.proofs.EntryAt.{found_size}
use Rattle.edit.proofs.NewRun.{putting_first, always_there, puts_new, putting_more}
use Rattle.edit.proofs.put_new.Goals as goal

pub loop-at-init : goal.loop-at-init
loop-at-init c =
    putting_first _ _ _ _ c.requires.0 c.requires.1

pub unwrap-entry-requires : goal.unwrap-entry-requires
unwrap-entry-requires c =
    always_there _ _ _ _ _ _ _ _ c.loop-at.invariant c.requires.3 c.loop-at-test.true _ c.read_entry.ensures

pub loop-at-smaller : goal.loop-at-smaller
loop-at-smaller c =
    let z = found_size _ c.args.new.now c.loop-at.at c.loop-at-test.true _ _ _ (rw c.unwrap-entry.ensures at c.read_entry.ensures) in omega arith

pub loop-at-preserved : goal.loop-at-preserved
loop-at-preserved c =
    putting_more _ _ _ _ _ _ _ _ c.loop-at.invariant c.loop-at-test.true _ _ _ (rw c.unwrap-entry.ensures at c.read_entry.ensures) _ _ _
    c.put_one-next.ensures

pub returns : goal.returns
returns c =
    puts_new _ _ _ _ _ _ _ _ c.loop-at.invariant c.loop-at-test.false
