-- `table::hang_all` meets its contract. Assumes nothing.
use Prim.Native.Nat.{◌<◌}
use native.Mathlib.Omega.{arith}
use mathlib.Core.Path.{◌≡◌, ◌∙◌}
use lib.ListN.{length}
use Rattle.table.proofs.Frames.{links_refl, links_trans}
use Rattle.table.proofs.Chains.{blank_chained, hang_kept, hang_chained}
use Rattle.table.proofs.hang_all.Goals as goal

pub wipe_all-requires : goal.wipe_all-requires
wipe_all-requires c = omega (arith, c.requires)

pub loop-i-init : goal.loop-i-init
loop-i-init c =
    (links_refl _ _, blank_chained _ _ _ c.wipe_all.ensures)

pub hang-requires : goal.hang-requires
hang-requires c =
    let e = (let it : length c.loop-i.room ≡ length c.args.room.now = c.loop-i.invariant.0.same_length ∙ c.wipe_all.ensures.links.same_length in it) in (c.requires.0, c.requires.1, omega (arith, c.requires), omega (arith, c.requires))

pub loop-i-preserved : goal.loop-i-preserved
loop-i-preserved c =
    let l = c.loop-i in
    let e = (let it : length c.loop-i.room ≡ length c.args.room.now = c.loop-i.invariant.0.same_length ∙ c.wipe_all.ensures.links.same_length in it) in
    let m : l.i < c.args.n = omega arith in (
      rw c.hang.ensures (links_trans _ l.room _ c.args.n l.invariant.0 (hang_kept l.room c.args.n c.args.n l.i l.invariant.1 c.requires.0 (omega arith) m c.requires.1 (omega (arith, c.requires)))),
      rw c.hang.ensures (hang_chained l.room c.args.n c.args.n l.i l.invariant.1 c.requires.0 (omega arith) m c.requires.1 (omega (arith, c.requires))),
    )

pub shape_of-room : goal.shape_of-room
shape_of-room c = (let it : length c.loop-i.room ≡ length c.args.room.now = c.loop-i.invariant.0.same_length ∙ c.wipe_all.ensures.links.same_length in it)

pub returns : goal.returns
returns c =
    let l = c.loop-i in
    let e : l.i ≡ c.args.n = omega arith in
    record { links = links_trans _ _ _ _ c.wipe_all.ensures.links l.invariant.0; chained = rw e at l.invariant.1 }
