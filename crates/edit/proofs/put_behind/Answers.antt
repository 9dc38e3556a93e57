-- `edit::put_behind` meets its contract. Assumes nothing.
use native.Mathlib.Omega.{arith}
use mathlib.Core.Path.{◌≡◌}
use Prim.Native.Nat.{◌+◌, ◌-◌}
use lib.ListN.{length}
use Rattle.edit.proofs.Behind.{putting_first, never_refused, went_level, went_all, putting_more}
use borrow.Author.Rules.{rules}
use Rattle.edit.proofs.put_behind.Goals as goal

pub loop-done-init : goal.loop-done-init
loop-done-init c =
    let w : length c.blank-spare.result.bytes ≡ 4096 = search rules in
    putting_first _ _ _ _ _ _ _ c.requires w c.room-room.ensures

pub level-requires : goal.level-requires
level-requires c =
    let B = c.loop-done.invariant.behind in
    let i = B.standing.ready.inside in
    (i.label_short, i.label_whole, B.fits)

pub take_record-requires : goal.take_record-requires
take_record-requires c =
    let G = c.loop-done.invariant in
    (G.behind.standing.ready, G.spare_whole, G.room_whole)

pub unwrap-taken-requires : goal.unwrap-taken-requires
unwrap-taken-requires c =
    never_refused c.loop-done.invariant (omega (arith, c.loop-done-test.true)) _ _ c.take_record.ensures.0

pub returns-then-level : goal.returns-then-level
returns-then-level c =
    went_level c.loop-done.invariant (c.level.ensures.0 c.if-level.true)

pub loop-done-preserved : goal.loop-done-preserved
loop-done-preserved c =
    let T = rw c.in-Record.ensures at c.take_record.ensures in
    let e : c.args.from.left - (c.loop-done.done + 1) ≡ c.args.from.left - c.loop-done.done - 1 = omega arith in
    rw e (putting_more c.loop-done.invariant c.in-Record.to c.in-Record.fields _ T.0 (omega (arith, c.loop-done-test.true)) _ _ _ _ _
    c.put_one-pen.ensures T.1 T.2)

pub returns : goal.returns
returns c =
    let e : c.args.from.left - c.loop-done.done ≡ 0 = omega (arith, c.loop-done-test.false) in
    rw e at (went_all c.loop-done.invariant (omega (arith, c.loop-done-test.false)))
