-- `part::kept_bytes` meets its contract. Assumes nothing.
use mathlib.Core.Path.{sym, ◌∙◌}
use Rattle.part.proofs.Labels.{kept_same, kept_other}
use Rattle.part.proofs.kept_bytes.Goals as goal

pub returns-then-s : goal.returns-then-s
returns-then-s c =
    let e = c.shared-s.ensures in
    c.saturating_sub.ensures ∙ rw e.0 (kept_same c.args.last.now c.args.name.now (sym c.if-s.true ∙ e.1))

pub returns-else-s : goal.returns-else-s
returns-else-s c =
    let e = c.shared-s.ensures in
    rw e.0 (kept_other c.args.last.now c.args.name.now (sym c.if-s.false ∙ e.1))
