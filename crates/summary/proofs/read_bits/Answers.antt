-- `summary::read_bits` meets its contract. Assumes nothing.
use Rattle.std.proofs.Common.{◌/◌}
use Rattle.summary.proofs.Words.{read_one, read_two}
use Rattle.summary.proofs.read_bits.Goals as goal

pub returns-then-size-part : goal.returns-then-size-part
returns-then-size-part c =
    λ i h. read_one (c.args.words.now) c.args.k c.args.size i c.if-size-part.true h

pub returns : goal.returns
returns c =
    λ i h. read_two (c.args.words.now) c.args.k c.args.size i (c.type_inv.words (c.args.k / 64)).fits c.requires.1 c.if-size-part.false h
