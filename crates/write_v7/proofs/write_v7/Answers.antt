-- `write_v7::write_v7` meets its contract: each pass that it hands on is `pass`. Assumes nothing.
use Rattle.std.proofs.Common.{rules, of_calls}
use Rattle.format.specs.Sheet.{front_header, sheet_result}
use Rattle.format.specs.Writing.{v7, headed, write_outcome, write_buffer}
use Rattle.write.proofs.Standing.{headed_records}
use Rattle.write_v7.proofs.write_v7.Goals as goal

pub returns-clause-answer : goal.returns-clause-answer
unfolding write_outcome
returns-clause-answer c =
    let h = front_header c.args.sheet.now in
    (c.in_two_passes.ensures v7 h (headed v7 h (sheet_result c.args.sheet.now)) (λ d e r h. search (rules, of_calls))).answer

pub returns-clause-file : goal.returns-clause-file
unfolding write_buffer write_outcome
returns-clause-file c =
    let h = front_header c.args.sheet.now in
    let x = sheet_result c.args.sheet.now in
    rw (headed_records (v7.bars h) 23 x) at
    (c.in_two_passes.ensures v7 h (headed v7 h x) (λ d e r h. search (rules, of_calls))).buffer
