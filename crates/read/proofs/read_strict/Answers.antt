-- `read::read_strict` meets its contract. Assumes nothing.
use mathlib.Core.Path.{sym}
use Rattle.read.proofs.Whole.{strict_shut, strict_judges, settled_strictly}
use Rattle.read.proofs.read_strict.Goals as goal

pub judge_names-total-requires : goal.judge_names-total-requires
judge_names-total-requires c =
    let o = rw c.in-Ok.is at c.opening.ensures in record { due = sym o.same; room = o.room }

pub settle-requires : goal.settle-requires
settle-requires c =
    let o = rw c.in-Ok.is at c.opening.ensures in
    let J = c.judge_names-total.ensures in (
      record { due = sym o.same; room = o.room },
      λ e. strict_judges _ c.args.sheet.now _ _ (record { due = sym o.same; room = o.room }) _ J.total e,
    )

pub returns-in-Err : goal.returns-in-Err
returns-in-Err c =
    let o = rw c.in-Err.is at c.opening.ensures in
    let s = strict_shut _ _ _ _ o.same in record { answer = s.0; sheet = s.1; room = c.clear.ensures }

pub returns-in-Ok : goal.returns-in-Ok
returns-in-Ok c =
    let o = rw c.in-Ok.is at c.opening.ensures in
    let J = c.judge_names-total.ensures in
    let s = settled_strictly _ _ _ _ (record { due = sym o.same; room = o.room }) _ J.total _ _ c.settle.ensures in record { answer = s.0; sheet = s.1; room = J.room }
