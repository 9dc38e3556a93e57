-- `wire::copy` meets its contract. So far dst holds i bytes of src and then its own. Assumes nothing.
use Prim.Native.Nat.{ℕ}
use mathlib.Core.Path.{◌≡◌, refl, ap, ◌∙◌}
use mathlib.Core.List.{List}
use lib.Seq.{take-length}
use lib.ListN.{length, get_or, set, length-set}
use native.Mathlib.Omega.{arith}
use Rattle.format.specs.Bytes.{over}
use Rattle.wire.proofs.Laws.{copy_step}
use Rattle.wire.proofs.copy.Goals as goal

pub loop-i-preserved : goal.loop-i-preserved
loop-i-preserved c =
    let l = c.loop-i in (
      simp length-set l.invariant.0,
      ap (λ (x : List ℕ). set x l.i (get_or c.args.src.now l.i 0)) l.invariant.1
          ∙ copy_step c.args.src.now c.args.dst.now l.i (omega arith) (omega arith),
    )

pub returns : goal.returns
unfolding over
returns c =
    let e : c.loop-i.i ≡ length c.args.src.now = omega arith in
    c.loop-i.invariant.1 ∙ rw (e, take-length)
