-- `step::after_item` meets its contract. Assumes nothing.
use mathlib.Core.Path.{refl}
use Rattle.step.proofs.after_item.Goals as goal

pub end_step-requires : goal.end_step-requires
end_step-requires c =
    rw c.in-End.is at c.requires.0

pub behind-next-requires : goal.behind-next-requires
behind-next-requires c =
    rw c.in-On.is at c.requires.0

pub behind-next-requires-in-Made : goal.behind-next-requires-in-Made
behind-next-requires-in-Made c =
    let W = rw c.in-Made.is at c.requires.0 in W.0

pub record_step-requires : goal.record_step-requires
record_step-requires c =
    let W = rw c.in-Made.is at c.requires.0 in
    rw c.behind-next-in-Made.ensures (W.1, c.requires.1)

pub returns-in-End : goal.returns-in-End
returns-in-End c =
    rw c.in-End.is (c.end_step.ensures, refl)

pub returns-in-On : goal.returns-in-On
returns-in-On c =
    rw c.in-On.is (refl, c.behind-next.ensures, refl)

pub returns-in-Made : goal.returns-in-Made
returns-in-Made c =
    let S = rw c.behind-next-in-Made.ensures at c.record_step.ensures in
    rw c.in-Made.is S
