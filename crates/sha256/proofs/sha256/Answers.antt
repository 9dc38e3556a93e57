-- `sha256::sha256` meets its contract. Assumes nothing.
use Rattle.sha256.proofs.StreamLaws.{whole_done}
use Rattle.sha256.proofs.sha256.Goals as goal

pub returns : goal.returns
returns c =
    whole_done _ _ _ _ c.args.bytes.now _
    c.start-run.ensures c.update-last.ensures c.finish.ensures
