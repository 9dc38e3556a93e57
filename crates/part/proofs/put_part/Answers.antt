-- `part::put_part` meets its contract. Assumes nothing.
use native.Mathlib.Omega.{arith}
use mathlib.Core.Path.{sym, ◌∙◌}
use Rattle.part.proofs.Laying.{lays_as, lays_within, lays_then}
use Rattle.part.proofs.Labels.{part_short, part_long, part_byte}
use Rattle.part.proofs.put_part.Goals as goal

pub overflow_cast-d : goal.overflow_cast-d
overflow_cast-d c =
    omega (arith, part_byte c.args.d c.args.a (sym c.if-one_byte.true ∙ c.one_byte.ensures))

pub returns-then-one_byte : goal.returns-then-one_byte
returns-then-one_byte c =
    lays_within (lays_as c.put.ensures
    (part_short c.args.d
    c.args.a
    (sym c.if-one_byte.true ∙ c.one_byte.ensures))) 11 (omega arith)

pub put_length-second-requires : goal.put_length-second-requires
put_length-second-requires c = (
  omega (arith, c.put-first.ensures.most, c.requires),
  omega (arith, c.requires),
)

pub put_length-requires : goal.put_length-requires
put_length-requires c = (
  omega (
    arith,
    c.put-first.ensures.most,
    c.put_length-second.ensures.most,
    c.requires,
  ),
  omega (arith, c.requires),
)

pub returns : goal.returns
returns c =
    lays_as (lays_then c.put-first.ensures
    (lays_then c.put_length-second.ensures c.put_length.ensures))
    (part_long c.args.d
    c.args.a
    (sym c.if-one_byte.false
    ∙ c.one_byte.ensures))
