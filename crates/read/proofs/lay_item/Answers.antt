-- `read::lay_item` meets its contract. Assumes nothing.
use native.Mathlib.Omega.{arith}
use mathlib.Core.Path.{◌≡◌, refl}
use Rattle.std.specs.Prelude.{Err}
use borrow.Author.Rules.{rules}
use Rattle.layout.proofs.Freely.{freely_if}
use Rattle.read.proofs.Quickly.{passes_on, passes_made}
use Rattle.read.proofs.lay_item.Goals as goal

pub lay_record-requires : goal.lay_record-requires
lay_record-requires c =
    let T = rw (c.in_ok-step.was, c.in-Made.is) at c.take_item.ensures.0 in
    (omega (arith, c.requires.out_few), T.short, T.whole)

pub record_size-requires : goal.record_size-requires
record_size-requires c =
    let T = rw (c.in_ok-step.was, c.in-Made.is) at c.take_item.ensures.0 in T.short

pub returns-in_err-step : goal.returns-in_err-step
returns-in_err-step c =
    let e : c.from_residual.result ≡ Err c.in_err-step.field-0.0 = search rules in
    rw e (rw c.in_err-step.was at c.take_item.ensures.0, refl)

pub returns-in-End : goal.returns-in-End
returns-in-End c = (rw (c.in_ok-step.was, c.in-End.is) at c.take_item.ensures.0, refl)

pub returns-in-On : goal.returns-in-On
returns-in-On c =
    let T = rw (c.in_ok-step.was, c.in-On.is) at c.take_item.ensures.0 in
    (refl, passes_on _ _ _ _ _ _ _ _ _ T refl refl)

pub returns-in-Made : goal.returns-in-Made
returns-in-Made c =
    let T = rw (c.in_ok-step.was, c.in-Made.is) at c.take_item.ensures.0 in
    (refl, passes_made _ _ _ _ _ _ _ _ _ _ _ _ T refl c.record_size.ensures (freely_if _ _ _ _ c.lay_record.ensures))
