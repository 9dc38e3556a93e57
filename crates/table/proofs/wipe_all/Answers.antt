-- `table::wipe_all` meets its contract. Assumes nothing.
use native.Mathlib.Omega.{arith}
use mathlib.Core.Path.{◌≡◌}
use Rattle.table.proofs.Chains.{blank_none, blank_more}
use Rattle.table.proofs.wipe_all.Goals as goal

pub loop-i-init : goal.loop-i-init
loop-i-init c = blank_none _ _

pub wipe-requires : goal.wipe-requires
wipe-requires c =
    let e = c.loop-i.invariant.links.same_length in omega (arith, e)

pub loop-i-preserved : goal.loop-i-preserved
loop-i-preserved c =
    let l = c.loop-i in
    rw c.wipe.ensures (blank_more c.args.room.now l.room c.args.n l.i c.requires (omega arith) l.invariant)

pub shape_of-room : goal.shape_of-room
shape_of-room c = c.loop-i.invariant.links.same_length

pub returns : goal.returns
returns c =
    let e : c.loop-i.i ≡ c.args.n = omega arith in
    rw e at c.loop-i.invariant
