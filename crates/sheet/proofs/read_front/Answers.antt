-- `sheet::read_front` meets its contract. Assumes nothing.
use native.Mathlib.Omega.{arith}
use mathlib.Core.Path.{◌≡◌, sym, ◌∙◌}
use mathlib.Core.Bool.{true}
use borrow.Author.Rules.{part_to_end}
use lib.ListN.{length, length-drop, drop}
use Prim.Native.Nat.{◌+◌, ◌≤◌}
use Rattle.format.specs.Bytes.{be16}
use Rattle.format.specs.Sheet.{framed}
use Rattle.format.proofs.SheetLaws.{frame}
use Rattle.sheet.proofs.Fronts.{front_version, front_empty, front_unframed, front_short, front_told}
use Rattle.sheet.proofs.read_front.Goals as goal

pub returns-then-sheet-eq0 : goal.returns-then-sheet-eq0
returns-then-sheet-eq0 c =
    front_empty _ c.args.sheet.now c.if-sheet-eq0.true

pub returns-then-sheet-version : goal.returns-then-sheet-version
returns-then-sheet-version c =
    front_version _ c.args.sheet.now c.if-sheet-version.true

pub returns-then-not-is_framed : goal.returns-then-not-is_framed
returns-then-not-is_framed c =
    front_unframed _ c.args.sheet.now c.if-sheet-version.false
    (simp part_to_end at (sym c.is_framed.ensures ∙ c.if-not-is_framed.true))

pub returns-then-n-lt4 : goal.returns-then-n-lt4
returns-then-n-lt4 c =
    front_short _ _ c.if-sheet-version.false ((let it : framed (drop 1 c.args.sheet.now) ≡ true = simp part_to_end at (sym c.is_framed.ensures ∙ c.if-not-is_framed.false) in it))
    (rw ((let it : c.size_of-n.result ≡ be16
    (drop 1 c.args.sheet.now) = c.size_of-n.ensures ∙ simp part_to_end at c.get_be16.ensures.0 in it)) at c.if-n-lt4.true)

pub returns : goal.returns
returns c =
    let e = (let it : c.size_of-n.result ≡ be16
    (drop 1 c.args.sheet.now) = c.size_of-n.ensures ∙ simp part_to_end at c.get_be16.ensures.0 in it) in
    front_told _ c.args.sheet.now
    c.if-sheet-version.false ((let it : framed (drop 1 c.args.sheet.now) ≡ true = simp part_to_end at (sym c.is_framed.ensures ∙ c.if-not-is_framed.false) in it))
    (rw e at c.if-n-lt4.false) ((let it : (3 ≤ length (drop 1 c.args.sheet.now))
    × (3 + be16 (drop 1 c.args.sheet.now) ≤ length
    c.args.sheet.now) = let f = frame _ ((let it : framed (drop 1 c.args.sheet.now) ≡ true = simp part_to_end at (sym c.is_framed.ensures ∙ c.if-not-is_framed.false) in it)) in let l = length-drop 1 c.args.sheet.now in
    (f.length_there, omega arith) in it)).1 c.header.result
    (rw e at (simp part_to_end at c.header.ensures))
