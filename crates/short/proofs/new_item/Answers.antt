-- `short::new_item` meets its contract. Assumes nothing.
use native.Mathlib.Omega.{arith}
use Rattle.short.proofs.Laws.{new_line, new_move, new_station_lem, new_section_lem, repeats_found}
use Rattle.short.proofs.new_item.Goals as goal

pub returns-then-code-eq15 : goal.returns-then-code-eq15
returns-then-code-eq15 c =
    λ version v. new_move version c.args.s.now v (omega (arith, c.if-s-lt33.false)) c.if-code-eq15.true

pub returns-then-code-gt95 : goal.returns-then-code-gt95
returns-then-code-gt95 c =
    λ version v. repeats_found c.same_label.result version c.args.s.now c.args.len v (omega (arith, c.if-s-lt33.false)) (omega (arith, c.if-code-gt95.true)) c.same_label.ensures

pub returns-then-code-lt52 : goal.returns-then-code-lt52
returns-then-code-lt52 c =
    let L = rw c.in-Some.is at c.new_part-p.ensures in
    λ version v. new_section_lem version c.args.s.now c.args.len _ _ (omega (arith, c.if-s-lt33.false)) v L (omega (arith, c.if-code-lt48.false)) (omega (arith, c.if-code-lt52.true))

pub returns-then-code-lt72 : goal.returns-then-code-lt72
returns-then-code-lt72 c =
    let L = rw c.in-Some.is at c.new_part-p.ensures in
    λ version v. new_line version c.args.s.now c.args.len _ _ (omega (arith, c.if-s-lt33.false)) v L (omega (arith, c.if-code-lt64.false)) (omega (arith, c.if-code-lt72.true))

pub returns : goal.returns
returns c =
    let L = rw c.in-Some.is at c.new_part-p.ensures in
    λ version v. new_station_lem version c.args.s.now c.args.len _ _ (omega (arith, c.if-s-lt33.false)) v L (omega (arith, c.if-code-lt128-2.false))
