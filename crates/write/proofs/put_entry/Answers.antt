-- `write::put_entry` meets its contract. Assumes nothing.
use Rattle.sheet.proofs.EntryAt.{found_formed}
use Rattle.write.proofs.Turn.{named_short}
use Rattle.write.proofs.put_entry.Goals as goal

pub put_record-bytes-requires : goal.put_record-bytes-requires
put_record-bytes-requires c =
    (named_short _ _ c.requires.1, found_formed _ _ _ c.requires.0 _ _ _ c.in_ok-size.ensures)

pub returns : goal.returns
returns c =
    let a = c.setting_after-after.ensures in
    record {
      from = c.in_ok-size.field-0.from;
      told = c.in_ok-size.ensures;
      puts = c.put_record-bytes.ensures;
      leaves = rw (c.hand_after.ensures, a);
      stands = rw a;
    }
