-- `held::short_step` meets its contract. Assumes nothing.
use native.Mathlib.Omega.{arith}
use mathlib.Core.Path.{refl}
use Rattle.held.proofs.ShortLaws.{took, passed}
use Rattle.held.proofs.short_step.Goals as goal

pub returns-in_err-quick : goal.returns-in_err-quick
returns-in_err-quick c =
    let t = c.in_err-quick.ensures in rw c.from_residual.ensures (refl, t.0, t.1)

pub overflow_add-stand : goal.overflow_add-stand
overflow_add-stand c =
    let T = rw c.in-Leg.is at c.in_ok-quick.ensures in omega (arith, T.within)

pub leg_record-requires : goal.leg_record-requires
leg_record-requires c =
    let T = rw c.in-Leg.is at c.in_ok-quick.ensures in omega (arith, T.short)

pub overflow_add-stand-in-Made : goal.overflow_add-stand-in-Made
overflow_add-stand-in-Made c =
    let T = rw c.in-Made.is at c.in_ok-quick.ensures in omega (arith, T.within)

pub overflow_add-stand-in-Trim : goal.overflow_add-stand-in-Trim
overflow_add-stand-in-Trim c =
    let T = rw c.in-Trim.is at c.in_ok-quick.ensures in omega (arith, T.within)

pub overflow_add-stand-in-Move : goal.overflow_add-stand-in-Move
overflow_add-stand-in-Move c =
    let T = rw c.in-Move.is at c.in_ok-quick.ensures in omega (arith, T.within)

pub returns-in-Leg : goal.returns-in-Leg
returns-in-Leg c =
    let T = rw c.in-Leg.is at c.in_ok-quick.ensures in
    rw c.leg_record.ensures (took c.held_of-stand.ensures T c.lead_on.ensures)

pub returns-in-Made : goal.returns-in-Made
returns-in-Made c =
    let T = rw c.in-Made.is at c.in_ok-quick.ensures in
    passed c.held_of-stand.ensures T c.pass_on.ensures

pub returns-in-Trim : goal.returns-in-Trim
returns-in-Trim c =
    let T = rw c.in-Trim.is at c.in_ok-quick.ensures in
    passed c.held_of-stand.ensures T c.pass_on-in-Trim.ensures

pub returns-in-Move : goal.returns-in-Move
returns-in-Move c =
    let T = rw c.in-Move.is at c.in_ok-quick.ensures in
    took c.held_of-stand.ensures T c.lead_on-in-Move.ensures
