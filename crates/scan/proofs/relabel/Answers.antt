-- `scan::relabel` meets its contract. Assumes nothing.
use Rattle.scan.proofs.Kept.{relabel_ok, relabel_fits}
use Rattle.scan.proofs.relabel.Goals as goal

pub unwrap-requires : goal.unwrap-requires
unwrap-requires c =
    relabel_ok c.args.bytes.now _ c.args.added.now c.args.len c.args.off c.requires.0 c.requires.1 c.requires.2 c.requires.3 _ c.label_step.ensures.0

pub returns : goal.returns
returns c =
    relabel_fits c.args.bytes.now _ c.args.added.now c.args.len c.args.off c.requires.0 c.requires.1 c.requires.2 c.requires.3 _
    (rw c.unwrap.ensures at c.label_step.ensures.0)
