-- `viewer::show` meets its contract. Assumes nothing.
use native.Mathlib.Omega.{arith}
use Rattle.viewer.proofs.Whole.{needed_few, short_due, shown_fits, shown_due}
use Rattle.viewer.proofs.show.Goals as goal

pub overflow_mul-needed : goal.overflow_mul-needed
overflow_mul-needed c =
    let n = needed_few c.args.sheet.now c.args.origin c.args.out.now c.args.legs c.requires (λ i. (c.type_inv.sheet i).fits) in
    omega (arith, n, c.well_formed)

pub returns-then-out-needed : goal.returns-then-out-needed
returns-then-out-needed c =
    let z = short_due c.args.sheet.now c.args.origin c.args.out.now c.args.legs c.requires c.if-out-needed.true in
    record { answer = rw c.at.ensures z.0; numbers = z.1 }

pub fill-requires : goal.fill-requires
fill-requires c =
    shown_fits c.args.sheet.now c.args.origin c.args.out.now c.args.legs c.requires c.if-out-needed.false

pub returns : goal.returns
returns c =
    let z = shown_due c.args.sheet.now c.args.origin c.args.out.now c.args.legs c.requires c.if-out-needed.false _ c.fill.ensures in
    record { answer = z.0; numbers = z.1 }
