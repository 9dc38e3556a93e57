-- `table::add` meets its contract. Assumes nothing.
use Rattle.table.proofs.Growing.{grew_anew, grew_on}
use Rattle.table.proofs.add.Goals as goal

pub returns-then-spread-n : goal.returns-then-spread-n
returns-then-spread-n c =
    let w = rw (c.lay.ensures, c.lay_words.ensures) at c.hang_all.ensures in
    grew_anew c.args.index.seed c.args.room.now c.args.name.now c.args.index.count c.args.index.back c.args.index.spread c.args.hash c.args.place c.node_for-bytes.result c.requires.0 c.requires.1 c.requires.2 c.if-room-top.false c.requires.3 c.requires.4 c.node_for-bytes.ensures _ w

pub returns : goal.returns
returns c =
    rw (c.hang.ensures, c.lay.ensures, c.lay_words.ensures)
    (grew_on c.args.index.seed c.args.room.now c.args.name.now c.args.index.count c.args.index.back c.args.index.spread c.args.hash c.args.place c.node_for-bytes.result c.requires.0 c.requires.1 c.requires.2 c.if-room-top.false c.requires.3 c.requires.4 c.node_for-bytes.ensures c.if-spread-n.false)
