-- `read::salvage` meets its contract. Assumes nothing.
use mathlib.Core.Path.{◌≡◌, sym}
use Rattle.std.specs.Prelude.{Err}
use borrow.Author.Rules.{rules}
use Rattle.read.proofs.Whole.{salvage_shut}
use Rattle.read.proofs.salvage.Goals as goal

pub salvage_items-requires : goal.salvage_items-requires
salvage_items-requires c =
    let T = rw c.in_ok-head.was at c.opening.ensures in record { due = sym T.same; room = T.room }

pub returns-in_err-head : goal.returns-in_err-head
returns-in_err-head c =
    let T = rw c.in_err-head.was at c.opening.ensures in
    let e : c.from_residual.result ≡ Err c.in_err-head.field-0.0 = search rules in
    let r = salvage_shut _ _ _ T.same in rw e (record { answer = r.answer; sheet = r.buffer })
