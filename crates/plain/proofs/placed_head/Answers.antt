-- `plain::placed_head` meets its contract. Assumes nothing.
use native.Mathlib.Omega.{arith}
use Rattle.format.proofs.SheetLaws.{frame}
use Rattle.plain.proofs.Placing.{leg_placed, station_placed_lem}
use Rattle.plain.proofs.placed_head.Goals as goal

pub bounds-s-2 : goal.bounds-s-2
bounds-s-2 c = omega (arith, frame _ c.requires.1)

pub returns-then-kind-eq1 : goal.returns-then-kind-eq1
returns-then-kind-eq1 c =
    leg_placed c.leg_head.result c.args.s.now c.args.mark c.args.position c.leg_head.ensures

pub bounds-s-3 : goal.bounds-s-3
bounds-s-3 c =
    omega (
      arith,
      frame _ c.requires.1,
      c.requires.0,
      c.if-n-lt2.false,
    )

pub returns : goal.returns
returns c =
    station_placed_lem c.station_head.result c.args.s.now c.args.mark c.args.position c.station_head.ensures c.if-s-gt31.false
