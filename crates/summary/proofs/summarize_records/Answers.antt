-- `summary::summarize_records` meets its contract. Assumes nothing.
use Rattle.std.proofs.lemmas.Result.{err_from_is_err_and}
use Rattle.std.proofs.Common.{drop, ◌∙◌, arith}
use Rattle.format.specs.Sheet.{records_of}
use Rattle.format.specs.Summary.{marks_in}
use Rattle.format.proofs.SummaryLaws.{length_marks}
use Rattle.summary.proofs.Words.{put_to}
use Rattle.summary.proofs.Renewing.{made, make_flawed, make_short, make_done}
use Rattle.summary.proofs.summarize_records.Goals as goal

pub returns-then-words-least : goal.returns-then-words-least
returns-then-words-least c =
    let C = c.in_ok-records.ensures in
    let z = make_short (records_of c.args.version (drop c.args.begin c.args.sheet.now)) c.args.words.now _ c.words_for-least.result C.good C.many c.words_for-least.ensures c.if-words-least.true in
    record { answer = rw c.at.ensures z.0; words = z.1 }

pub put_marks-requires : goal.put_marks-requires
put_marks-requires c =
    let C = c.in_ok-records.ensures in (
      c.requires,
      record {
        version = c.args.version;
        good = C.good;
        room = omega (arith, C.many, c.words_for-least.ensures, c.if-words-least.false);
        few = omega (arith, C.many, C.few, c.well_formed);
      },
    )

pub finish-requires : goal.finish-requires
finish-requires c =
    let C = c.in_ok-records.ensures in
    (omega (arith, c.words_for-least.ensures, c.if-words-least.false, c.put_marks.auto.words), omega (arith, C.few, c.well_formed))

pub returns-in_err-records : goal.returns-in_err-records
returns-in_err-records c =
    let p = err_from_is_err_and c.from_residual.result c.from_residual.ensures.1 in
    let z = make_flawed (records_of c.args.version (drop c.args.begin c.args.sheet.now)) c.args.words.now _ _ c.in_err-records.ensures in
    record { answer = rw (p.1, p.2) z.0; words = z.1 }

pub returns : goal.returns
returns c =
    let C = c.in_ok-records.ensures in
    let x = records_of c.args.version (drop c.args.begin c.args.sheet.now) in
    let z = make_done x c.args.words.now _ c.words_for-least.result C.good C.many c.words_for-least.ensures c.finish.new.words c.if-words-least.false
    (made c.args.words.now c.put_marks.new.words c.finish.new.words (marks_in x.records) _ (length_marks x.records ∙ C.many) c.put_marks.auto.words
    (put_to C.many (c.put_marks.ensures c.args.version C.good)) c.finish.ensures) in
    record { answer = z.0; words = z.1 }
