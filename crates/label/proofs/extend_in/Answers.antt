use native.Mathlib.Omega.{arith}
use mathlib.Core.Path.{refl}
use lib.ListN.{take}
use Rattle.wire.proofs.Laws.{laid_part}
use Rattle.label.proofs.extend_in.Goals as goal

pub returns : goal.returns
returns c =
    rw c.copy_sixteen.ensures (laid_part c.args.room.now (take 16 c.args.s.now) c.args.keep (omega (arith, c.requires)) _ refl)
