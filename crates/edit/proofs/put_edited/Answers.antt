-- `edit::put_edited` meets its contract. Assumes nothing.
use native.Mathlib.Omega.{arith}
use Rattle.edit.proofs.Whole.{ends_closed, ends_copied}
use Rattle.edit.proofs.put_edited.Goals as goal

pub put_changed-met-requires : goal.put_changed-met-requires
put_changed-met-requires c =
    c.requires.0

pub close-requires : goal.close-requires
close-requires c =
    let B = c.put_changed-met.ensures.went.behind in
    record { few_bytes = B.few_bytes; few_records = omega (arith, B.few_records) }

pub returns-then-met-eq0 : goal.returns-then-met-eq0
returns-then-met-eq0 c =
    ends_closed c.requires.0.at
    (λ i. omega (arith, c.type_inv.file i))
    c.args.new.now c.args.out.now c.requires.1 c.put_changed-met.ensures
    c.if-met-eq0.true c.close.ensures

pub put_tail-requires : goal.put_tail-requires
put_tail-requires c =
    let B = c.put_changed-met.ensures.went.behind in
    (B.standing.ready.inside.place_inside, B.standing.ready.small, B.few_bytes, omega (arith, B.few_records))

pub returns : goal.returns
returns c =
    ends_copied c.requires.0.at
    (λ i. omega (arith, c.type_inv.file i))
    c.args.new.now c.args.out.now c.requires.1 c.put_changed-met.ensures
    c.if-met-eq0.false c.put_tail.ensures
