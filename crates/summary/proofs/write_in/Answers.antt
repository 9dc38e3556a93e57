-- `summary::write_in` meets its contract. Assumes nothing.
use Rattle.summary.proofs.Words.{wrote_in}
use Rattle.summary.proofs.write_in.Goals as goal

pub returns : goal.returns
returns c =
    wrote_in (c.args.words.now) c.args.j c.args.s c.args.size c.args.v c.put_field.result c.requires.0 c.requires.1 c.requires.2 c.put_field.ensures
