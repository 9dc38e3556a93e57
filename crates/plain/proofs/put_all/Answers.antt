use Rattle.plain.proofs.Stores.{pieces}
use Rattle.plain.proofs.put_all.Goals as goal

pub returns : goal.returns
returns c =
    pieces c.args.out.now c.args.code c.args.part c.args.added.now c.args.form c.args.s.now
    c.requires.1 _ _ _
    c.requires.0
    c.put_two.ensures
    c.copy_short.ensures c.put_tail.ensures
