-- `edit::edit_opened` meets its contract. Assumes nothing.
use mathlib.Core.Path.{◌≡◌}
use lib.ListN.{length}
use Rattle.std.proofs.lemmas.Result.{err_from_is_err_and}
use Rattle.edit.proofs.Whole.{edits_unread, edits_foreign, edits_past}
use borrow.Author.Rules.{rules}
use Rattle.edit.proofs.edit_opened.Goals as goal

pub judge-requires : goal.judge-requires
judge-requires c =
    let w : length c.blank-before.result.bytes ≡ 4096 = search rules in
    let v : length c.blank-behind.result.bytes ≡ 4096 = search rules in
    (c.requires, w, v)

pub edit_house-requires : goal.edit_house-requires
edit_house-requires c =
    record { opens = c.requires; cuts = rw c.in-Cut.is at c.in_ok-judged.ensures }

pub returns-in_err-judged : goal.returns-in_err-judged
returns-in_err-judged c =
    let p = err_from_is_err_and c.from_residual.result c.from_residual.ensures.1 in
    rw (p.1, p.2) (edits_unread c.args.file.now c.args.old c.requires c.args.run c.args.new.now c.args.out.now _ _ c.in_err-judged.ensures)

pub returns-in-Foreign : goal.returns-in-Foreign
returns-in-Foreign c =
    let T = rw c.in-Foreign.is at c.in_ok-judged.ensures in
    rw c.at.ensures (edits_foreign c.args.file.now c.args.old c.requires c.args.run c.args.new.now c.args.out.now T.0 T.1)

pub returns-in-Short : goal.returns-in-Short
returns-in-Short c =
    let T = rw c.in-Short.is at c.in_ok-judged.ensures in
    rw c.at-in-Short.ensures (edits_past c.args.file.now c.args.old c.requires c.args.run c.args.new.now c.args.out.now T.0 _ T.1 T.2)

pub returns-in-Cut : goal.returns-in-Cut
returns-in-Cut c = c.edit_house.ensures
