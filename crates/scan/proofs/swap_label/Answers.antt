-- `scan::swap_label` meets its contract. Assumes nothing.
use Rattle.scan.proofs.Kept.{swap_whole}
use Rattle.scan.proofs.swap_label.Goals as goal

pub returns : goal.returns
returns c =
    swap_whole c.args.bytes.now _ c.args.name.now c.args.len _ c.relabel.ensures
