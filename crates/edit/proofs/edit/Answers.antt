-- `edit::edit` meets its contract. Assumes nothing.
use mathlib.Core.Path.{sym}
use Rattle.std.proofs.lemmas.Result.{err_from_is_err_and}
use Rattle.edit.proofs.Whole.{edits_shut}
use Rattle.edit.proofs.edit.Goals as goal

pub edit_opened-requires : goal.edit_opened-requires
edit_opened-requires c =
    let T = c.in_ok-head.ensures in record { due = sym T.same; room = T.room }

pub returns-in_err-head : goal.returns-in_err-head
returns-in_err-head c =
    let p = err_from_is_err_and c.from_residual.result c.from_residual.ensures.1 in
    let E = edits_shut _ _ _ _ _ _ _ c.in_err-head.ensures.same in
    rw (p.1, p.2) (record { answer = E.0; file = E.1 })

pub returns : goal.returns
returns c =
    let E = c.edit_opened.ensures in record { answer = E.answer; file = E.buffer }
