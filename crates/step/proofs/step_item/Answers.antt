-- `step::step_item` meets its contract. Assumes nothing.
use native.Mathlib.Omega.{arith}
use mathlib.Core.Path.{ap}
use lib.ListN.{length}
use Rattle.step.proofs.Laws.{lesser_most, rest_is, step_lacks, step_within, step_refused, step_after_lem}
use Rattle.step.proofs.step_item.Goals as goal

pub slice_bounds-rest-count : goal.slice_bounds-rest-count
slice_bounds-rest-count c =
    omega (arith, c.lesser-at.ensures, lesser_most c.args.stand.place (length c.args.file.now))

pub slice_bounds-rest-start : goal.slice_bounds-rest-start
slice_bounds-rest-start c =
    omega (arith, c.lesser-at.ensures, lesser_most c.args.stand.place (length c.args.file.now))

pub room_for-room-requires : goal.room_for-room-requires
room_for-room-requires c =
    (omega (arith, c.lesser-old.ensures, lesser_most c.args.stand.len 4096), c.requires.1)

pub returns-in-Err : goal.returns-in-Err
returns-in-Err c =
    let q = rw (c.in-Err.is, c.lesser-at.ensures, c.lesser-old.ensures) at c.room_for-room.ensures in
    rw c.at.ensures (step_lacks c.args.stand _ _ _ c.requires.0 c.requires.1 _ q)

pub take_item-requires : goal.take_item-requires
take_item-requires c =
    (omega (arith, c.lesser-old.ensures, lesser_most c.args.stand.len 4096), c.requires.1)

pub after_item-requires : goal.after_item-requires
after_item-requires c =
    let T = rw (c.lesser-at.ensures, c.lesser-old.ensures) at c.in-Ok.ensures.0 in
    (step_within c.args.stand _ c.args.file.now c.args.out.now c.requires.0 c.requires.1 _ _ T (omega (arith, c.well_formed)), T.whole)

pub returns-in-Err-take_item : goal.returns-in-Err-take_item
returns-in-Err-take_item c =
    let T = rw (c.lesser-at.ensures, c.lesser-old.ensures) at c.in-Err-take_item.ensures.0 in
    step_refused c.args.stand _ _ _ c.requires.0 c.requires.1 _ _ T _ (rw c.at-in-Err-take_item.ensures at c.refused_step.ensures)

pub returns-in-Ok : goal.returns-in-Ok
returns-in-Ok c =
    let T = rw (c.lesser-at.ensures, c.lesser-old.ensures) at c.in-Ok.ensures.0 in
    let K = rw (c.lesser-at.ensures, c.lesser-old.ensures) at c.in-Ok.ensures.1 in
    let q = rw (c.in_default.is, c.lesser-at.ensures, c.lesser-old.ensures) at c.room_for-room.ensures in
    step_after_lem c.args.stand _ _ _ c.requires.0 c.requires.1 _ _ T K q _ (rw c.lesser-at.ensures (ap length (rest_is c.args.stand c.args.bytes.now c.args.file.now c.args.out.now c.requires.0 c.requires.1))) _ _ c.after_item.ensures
