-- `layout::lay_short` meets its contract. Assumes nothing.
use native.Mathlib.Omega.{arith}
use Prim.Native.Nat.{◌+◌}
use mathlib.Core.List.{◌++◌}
use lib.ListN.{length, take}
use Rattle.layout.proofs.Laws.{short, none, both}
use Rattle.layout.proofs.lay_short.Goals as goal

pub returns-then-sheet-name : goal.returns-then-sheet-name
returns-then-sheet-name g c =
    let L = take c.args.keep c.args.bytes.now ++ c.args.added.now in
    let laws = g.met.F.Front in
    let z = laws.size_is c.args.fields L in
    short (g.F.Front.made c.args.fields L) c.args.keep c.args.added.now c.args.bytes.now _ _ c.args.at c.requires.1 (laws.label_is c.args.fields L)
    (none (omega (arith, z, c.if-sheet-name.true, c.SIZE.ensures)))

pub returns : goal.returns
returns g c =
    let L = take c.args.keep c.args.bytes.now ++ c.args.added.now in
    let n = c.args.keep + length c.args.added.now in
    let laws = g.met.F.Front in
    let z = laws.size_is c.args.fields L in
    short (g.F.Front.made c.args.fields L) c.args.keep c.args.added.now c.args.bytes.now _ _ c.args.at c.requires.1 (laws.label_is c.args.fields L)
    (both c.put.new.out _ (omega (arith, z, c.if-sheet-name.false, c.SIZE.ensures))
    (rw (laws.front_is c.args.fields L n) c.put.ensures)
    (rw z (rw c.SIZE.ensures at c.put_joined.ensures)))
