-- `edit::put_one` meets its contract. Assumes nothing.
use Rattle.edit.proofs.Whole.{emits_one}
use Rattle.edit.proofs.put_one.Goals as goal

pub returns : goal.returns
returns c =
    rw c.setting_after.ensures
    (emits_one c.args.pen c.args.last.now _ c.args.fields c.args.name.now _ _ _ _ c.put_after-count.ensures
    c.keep_label.ensures)
