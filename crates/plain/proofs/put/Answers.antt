-- `plain::put` meets its contract. Assumes nothing.
use native.Mathlib.Omega.{arith}
use Prim.Native.Nat.{ℕ, ◌≤◌}
use mathlib.Core.List.{List}
use lib.ListN.{length, length-take, length-drop}
use Rattle.plain.specs.declared.Item.{Item}
use Rattle.plain.specs.Plainly.{added_of, Fitting}
use Rattle.plain.proofs.Stores.{tail_most, puts_none, puts_all}
use Rattle.plain.proofs.put.Goals as goal

-- the bytes that are added are few
few : (item : Item) (long : ℕ) (s : List ℕ) → Fitting item long s → length (added_of item s) ≤ 15
few item long s h = simp (length-take, length-drop) (omega (arith, h.few_added, h.within))

pub overflow_add-n-2 : goal.overflow_add-n-2
overflow_add-n-2 c =
    let t = c.tail_size.ensures in
    rw c.label_at.ensures (omega (arith, t, tail_most c.args.item.form, few c.args.item _ c.args.s.now c.requires))

pub returns-then-out-n : goal.returns-then-out-n
returns-then-out-n c =
    let t = c.tail_size.ensures in
    let l = c.label_at.ensures in
    rw (t, l) (puts_none c.args.out.now c.args.item.code _ (added_of c.args.item c.args.s.now) c.args.item.form c.args.s.now
    (few c.args.item _ c.args.s.now c.requires) (rw (t, l) at c.if-out-n.true))

pub returns : goal.returns
returns c =
    let t = c.tail_size.ensures in
    let l = c.label_at.ensures in
    rw (t, l) (puts_all c.args.out.now c.args.item.code _ (added_of c.args.item c.args.s.now) c.args.item.form c.args.s.now
    (few c.args.item _ c.args.s.now c.requires) _ (rw (t, l) at c.if-out-n.false) (rw l at c.put_all.ensures))
