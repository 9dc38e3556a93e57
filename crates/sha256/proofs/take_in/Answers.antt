-- `sha256::take_in` meets its contract. Assumes nothing.
use Rattle.std.proofs.Common.{◌-◌, ◌*◌, ◌/◌, length, take, drop, arith, length-drop}
use borrow.Author.Rules.{part_to_end}
use Rattle.sha256.proofs.StreamLaws.{rest_front, taken_short, taken_done}
use Rattle.sha256.proofs.take_in.Goals as goal

pub returns-then-bytes-room : goal.returns-then-bytes-room
returns-then-bytes-room c =
    taken_short _ c.args.block.now _ c.args.bytes.now c.args.held c.requires.0 c.requires.1 (omega arith) c.lay.ensures

pub overflow_mul-at : goal.overflow_mul-at
overflow_mul-at c =
    simp (part_to_end, length-drop) (omega arith)

pub returns : goal.returns
returns c =
    let r = 64 - c.args.held in
    let g = take (length c.args.bytes.now - r) (drop r c.args.bytes.now) in
    taken_done _ _ _ c.args.block.now _ c.args.bytes.now _ g _ _ c.args.held c.requires.0 c.requires.1
    (omega arith)
    (rest_front c.args.bytes.now r) c.lay-2.ensures
    c.compress-one.ensures (part_to_end c.args.bytes.now r)
    c.absorb-next.ensures (part_to_end g (length g / 64 * 64)) c.lay-3.ensures
