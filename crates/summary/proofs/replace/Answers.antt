-- `summary::replace` meets its contract. Assumes nothing.
use Rattle.std.proofs.Common.{◌∙◌, arith}
use Rattle.format.specs.Sheet.{sheet_version, records_of}
use Rattle.format.specs.Summary.{marks_in}
use Rattle.format.proofs.SummaryLaws.{length_marks}
use Rattle.summary.proofs.Words.{put_to}
use Rattle.summary.proofs.Renewing.{replaced}
use Rattle.summary.proofs.replace.Goals as goal

pub put_marks-requires : goal.put_marks-requires
put_marks-requires c =
    let C = c.requires.5 in (
      omega arith,
      record {
        version = sheet_version;
        good = C.good;
        room = omega (arith, C.many, c.requires, c.move_bits.auto.words);
        few = omega (arith, C.many, c.requires);
      },
    )

pub returns : goal.returns
returns c =
    let C = c.requires.5 in
    replaced c.args.words.now c.move_bits.new.words c.put_marks.new.words c.finish.new.words (marks_in (records_of sheet_version c.args.new.now).records) c.args.first c.args.from c.args.rest c.args.added
    (length_marks (records_of sheet_version c.args.new.now).records ∙ C.many) c.requires.0 (c.put_marks.auto.words ∙ c.move_bits.auto.words)
    c.move_bits.ensures (put_to C.many (c.put_marks.ensures sheet_version C.good)) c.finish.ensures
