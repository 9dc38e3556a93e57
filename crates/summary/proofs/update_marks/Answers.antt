-- `summary::update_marks` meets its contract. Assumes nothing.
use Rattle.std.proofs.Common.{arith}
use Rattle.summary.proofs.Renewing.{update_short, update_done}
use Rattle.summary.proofs.update_marks.Goals as goal

pub returns-then-words-most : goal.returns-then-words-most
returns-then-words-most c =
    let z = update_short c.args.words.now c.args.new.now c.args.n c.args.first c.args.count c.requires.1 c.args.added c.words_for-taken.result c.words_for.result
    c.requires.2.good c.requires.2.many c.words_for-taken.ensures c.words_for.ensures _ c.if-words-most.true (omega arith) in
    record { answer = rw c.at.ensures z.0; words = z.1 }

pub returns : goal.returns
returns c =
    let z = update_done c.args.words.now c.args.new.now c.args.n c.args.first c.args.count c.requires.1 c.args.added c.words_for-taken.result c.words_for.result
    c.requires.2.good c.requires.2.many c.words_for-taken.ensures c.words_for.ensures c.replace.new.words _ c.if-words-most.false (omega arith) c.replace.ensures in
    record { answer = z.0; words = z.1 }
