-- `step::room_for` meets its contract. Assumes nothing.
use mathlib.Core.Path.{◌∙◌}
use borrow.Author.Rules.{rules}
use Rattle.step.proofs.Laws.{ample_room, no_room_among, room_lacks, room_enough}
use Rattle.step.proofs.room_for.Goals as goal

pub returns-then-room-ge-RECORD_LIMIT : goal.returns-then-room-ge-RECORD_LIMIT
returns-then-room-ge-RECORD_LIMIT c = ample_room _ c.if-room-ge-RECORD_LIMIT.true _ _ _

pub returns-in_default : goal.returns-in_default
returns-in_default c = c.in_default.ensures.same c.args.room

pub returns-in_default-seen : goal.returns-in_default-seen
returns-in_default-seen c =
    no_room_among c.in-Ok.seen c.args.room (search rules) ∙ c.in-Ok.ensures.same c.args.room

pub record_size-n-requires : goal.record_size-n-requires
record_size-n-requires c =
    rw c.in-Made.is at c.in-Ok.ensures.short

pub returns-then-room-n : goal.returns-then-room-n
returns-then-room-n c =
    let e = c.record_size-n.ensures.0 in
    let P = rw c.in-Made.is at (c.in-Ok.ensures.same c.args.room) in
    rw e (room_lacks _ _ (rw e at c.if-room-n.true) ∙ P)

pub returns : goal.returns
returns c =
    let e = c.record_size-n.ensures.0 in
    let P = rw c.in-Made.is at (c.in-Ok.ensures.same c.args.room) in
    room_enough _ _ (rw e at c.if-room-n.false) ∙ P
