-- `step::find_short` meets its contract. Assumes nothing.
use native.Mathlib.Omega.{arith}
use Rattle.step.proofs.find_short.Goals as goal

pub returns-then-version-lt8 : goal.returns-then-version-lt8
returns-then-version-lt8 c = c.old_item.ensures (omega (arith, c.if-version-lt8.true))

pub returns : goal.returns
returns c = c.new_item.ensures c.args.version (omega (arith, c.if-version-lt8.false))
