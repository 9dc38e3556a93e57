-- `summary::entrances` meets its contract. Assumes nothing.
use Rattle.summary.proofs.Asking.{short, turned, past, held}
use Rattle.summary.proofs.entrances.Goals as goal

pub returns-then-words-least : goal.returns-then-words-least
returns-then-words-least c =
    rw c.at.ensures (short c.args.words.now c.args.records c.args.from c.args.to c.words_for-least.result c.words_for-least.ensures c.if-words-least.true)

pub returns-then-to-from : goal.returns-then-to-from
returns-then-to-from c =
    rw c.at-then-to-from.ensures (turned c.args.words.now c.args.records c.args.from c.args.to c.words_for-least.result c.words_for-least.ensures c.if-words-least.false c.if-to-from.true)

pub returns-then-n-to : goal.returns-then-n-to
returns-then-n-to c =
    rw c.at-then-n-to.ensures (past c.args.words.now c.args.records c.args.from c.args.to c.words_for-least.result c.words_for-least.ensures c.if-words-least.false c.if-to-from.false c.if-n-to.true)

pub returns : goal.returns
returns c =
    held c.args.words.now c.args.records c.args.from c.args.to c.words_for-least.result c.words_for-least.ensures c.if-words-least.false
    c.count_marks-count.result c.next_mark-next.result c.if-to-from.false c.if-n-to.false c.count_marks-count.ensures c.next_mark-next.ensures
