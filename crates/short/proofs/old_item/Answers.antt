-- `short::old_item` meets its contract. Assumes nothing.
use native.Mathlib.Omega.{arith}
use Rattle.short.proofs.Laws.{old_line, old_section, old_station_lem, trims_found}
use Rattle.short.proofs.old_item.Goals as goal

pub returns-then-code-lt48 : goal.returns-then-code-lt48
returns-then-code-lt48 c =
    λ v. trims_found c.trim.result _ c.args.s.now c.args.len v (omega (arith, c.if-s-lt33.false)) (omega (arith, c.requires)) c.trim.ensures

pub returns-then-code-lt64 : goal.returns-then-code-lt64
returns-then-code-lt64 c =
    let L = rw c.in-Some.is at c.old_part-p.ensures in
    λ v. old_section _ c.args.s.now c.args.len _ _ (omega (arith, c.if-s-lt33.false)) v L (omega (arith, c.if-version-lt5.false))
    (omega (arith, c.if-code-lt48.false)) (omega (arith, c.if-code-gt51.false))

pub returns-then-code-lt96 : goal.returns-then-code-lt96
returns-then-code-lt96 c =
    let L = rw c.in-Some.is at c.old_part-p.ensures in
    λ v. old_station_lem _ c.args.s.now c.args.len _ _ (omega (arith, c.if-s-lt33.false)) v L (omega (arith, c.if-code-lt64.false)) (omega (arith, c.if-code-lt96.true))

pub returns : goal.returns
returns c =
    let L = rw c.in-Some.is at c.old_part-p.ensures in
    λ v. old_line _ c.args.s.now c.args.len _ _ (omega (arith, c.if-s-lt33.false)) v L (omega (arith, c.if-code-lt128.false)) (omega (arith, c.if-code-gt135.false))
