-- `write::write` meets its contract: each pass that it hands on is `pass`. Assumes nothing.
use Rattle.std.proofs.Common.{rules, of_calls}
use Rattle.format.specs.Sheet.{front_header, sheet_result}
use Rattle.format.specs.Writing.{v8, write_outcome, write_buffer}
use Rattle.write.proofs.write.Goals as goal

pub returns-clause-answer : goal.returns-clause-answer
unfolding write_outcome
returns-clause-answer c =
    (c.in_two_passes.ensures v8 (front_header c.args.sheet.now) (sheet_result c.args.sheet.now) (λ d e r h. search (rules, of_calls))).answer

pub returns-clause-file : goal.returns-clause-file
unfolding write_buffer write_outcome
returns-clause-file c =
    (c.in_two_passes.ensures v8 (front_header c.args.sheet.now) (sheet_result c.args.sheet.now) (λ d e r h. search (rules, of_calls))).buffer
