-- `write_v7::put_entry` meets its contract. Assumes nothing.
use Rattle.sheet.proofs.EntryAt.{found_formed}
use Rattle.write_v7.proofs.Turn.{named_short, entry_turns}
use Rattle.write_v7.proofs.put_entry.Goals as goal

pub put_record-bytes-requires : goal.put_record-bytes-requires
put_record-bytes-requires c =
    (named_short _ _ c.requires.1, found_formed _ _ _ c.requires.0 _ _ _ c.in_ok-size.ensures)

pub returns : goal.returns
returns c =
    entry_turns _ _ _ _ c.requires.0 c.requires.1 _ _ _ c.in_ok-size.ensures _ _ _ c.put_record-bytes.ensures _
    c.unable.ensures _ c.hand_after.ensures
