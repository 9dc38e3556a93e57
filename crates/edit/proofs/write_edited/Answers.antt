-- `edit::write_edited` meets its contract: each pass that it hands on is `pass`. Assumes nothing.
use Rattle.std.proofs.Common.{rules, of_calls}
use Rattle.format.specs.Writing.{v8}
use Rattle.judge.specs.Judging.{old_header}
use Rattle.edit.specs.Runs.{edited_at}
use Rattle.edit.proofs.write_edited.Goals as goal

pub returns : goal.returns
returns c =
    c.in_two_passes.ensures v8 (old_header c.args.file.now c.args.cut.old) (edited_at c.args.file.now c.args.cut c.args.new.now)
    (λ d e r h. search (rules, of_calls))
