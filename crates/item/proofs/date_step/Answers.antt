-- `item::date_step` meets its contract. Assumes nothing.
use Rattle.item.proofs.Steps.{date_before, date_late, date_on}
use Rattle.item.proofs.date_step.Goals.{then-last-first-via-then-last-first, then-last-first-via-else-last-first+then-last-gt65535}
use Rattle.item.proofs.date_step.Goals as goal

pub returns-then-last-first : goal.returns-then-last-first
returns-then-last-first c =
    elim c.then-last-first.branch [
      | then-last-first-via-then-last-first w ↦ date_before _ _ _ _ c.args.setting c.args.setting w.if-last-first.true
      | then-last-first-via-else-last-first+then-last-gt65535 w ↦ date_late _ _ _ _ c.args.setting c.args.setting w.if-last-first.false w.if-last-gt65535.true
    ]

pub returns : goal.returns
returns c =
    date_on _ _ _ _ c.args.setting _ c.if-last-first.false c.if-last-gt65535.false (rw c.date_of-date.ensures)
