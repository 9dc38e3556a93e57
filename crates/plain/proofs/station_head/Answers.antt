use native.Mathlib.Omega.{arith}
use mathlib.Core.Path.{refl}
use Rattle.plain.proofs.Leads.{Front, front_of, station_leads}
use Rattle.plain.proofs.station_head.Goals as goal

pub bounds-s-3 : goal.bounds-s-3
bounds-s-3 c =
    omega (arith, ((let it : Front c.args.s.now 2 14 = front_of (λ i. (c.type_inv.s i).fits) c.requires c.label_fits.ensures c.if-not-label_fits.false in it)).there)

pub bounds-s-3-2 : goal.bounds-s-3-2
bounds-s-3-2 c =
    omega (arith, ((let it : Front c.args.s.now 2 14 = front_of (λ i. (c.type_inv.s i).fits) c.requires c.label_fits.ensures c.if-not-label_fits.false in it)).there)

pub returns : goal.returns
returns c =
    ((refl, omega arith, omega arith), station_leads _ ((let it : Front c.args.s.now 2 14 = front_of (λ i. (c.type_inv.s i).fits) c.requires c.label_fits.ensures c.if-not-label_fits.false in it)) c.if-s-gt127.false)
