-- `layout::put_label_freely` meets its contract. Assumes nothing.
use native.Mathlib.Omega.{arith}
use mathlib.Core.Path.{◌≡◌}
use mathlib.Core.List.{append-nil}
use lib.ListN.{length, take}
use lib.Seq.{length-take-le}
use Rattle.layout.proofs.Freely.{freely_laid, label_over}
use Rattle.layout.proofs.put_label_freely.Goals as goal

pub returns-then-len-gt48 : goal.returns-then-len-gt48
returns-then-len-gt48 c =
    let l = take c.args.len c.args.bytes.now in
    let n : length l ≡ c.args.len = length-take-le c.args.len c.args.bytes.now (omega (arith, c.requires)) in
    freely_laid _ _ l _ (omega (arith, c.requires)) (rw (append-nil l) at c.put_joined.ensures)

pub returns-then-out-k : goal.returns-then-out-k
returns-then-out-k c =
    let l = take c.args.len c.args.bytes.now in
    let n : length l ≡ c.args.len = length-take-le c.args.len c.args.bytes.now (omega (arith, c.requires)) in
    freely_laid _ _ l _ (omega (arith, c.requires)) (rw (append-nil l) at c.put_joined-then-out-k.ensures)

pub returns : goal.returns
returns c =
    label_over c.args.out.now c.args.bytes.now _ c.args.k c.args.len
    c.if-out-k.false c.if-len-gt48.false (omega (arith, c.requires))
    c.put_three.ensures
