use native.Mathlib.Omega.{arith}
use Rattle.format.proofs.SheetLaws.{frame}
use Rattle.plain.proofs.head_of.Goals as goal

pub bounds-s-2 : goal.bounds-s-2
bounds-s-2 c =
    omega (arith, frame _ c.requires.1)

pub returns-then-kind-eq1 : goal.returns-then-kind-eq1
returns-then-kind-eq1 c =
    c.leg_head.ensures.1 c.args.version

pub returns-then-kind-eq2 : goal.returns-then-kind-eq2
returns-then-kind-eq2 c =
    c.station_head.ensures.1 c.args.version c.args.mark
    c.args.position

pub returns : goal.returns
returns c =
    rw c.if-version-ne-SHEET_VERSION.false (c.section_head.ensures c.args.position)
