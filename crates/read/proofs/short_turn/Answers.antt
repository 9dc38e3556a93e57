-- `read::short_turn` meets its contract. Assumes nothing.
use mathlib.Core.Path.{refl}
use Rattle.read.proofs.short_turn.Goals as goal

pub returns-then-strict : goal.returns-then-strict
returns-then-strict c = record { does = rw c.if-strict.true (refl, refl, refl) }

pub returns : goal.returns
returns c =
    record { does = rw c.if-strict.false c.lay_short.ensures }
