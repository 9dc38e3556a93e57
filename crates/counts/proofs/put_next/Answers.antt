-- `counts::put_next` meets its contract. Assumes nothing.
use Rattle.counts.proofs.Left.{adds-next}
use Rattle.counts.proofs.put_next.Goals as goal

pub returns : goal.returns
returns c =
    let W = c.within-start.ensures in
    adds-next _ _ c.args.setting c.args.last.now c.args.name.now c.args.fields _ _ _ _ _ W.0 W.1
    c.put_record-n.ensures c.more.ensures c.first_fault.ensures
