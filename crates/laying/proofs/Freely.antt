-- The label of a record that is laid has as many bytes as the item keeps and adds; the record, laid with what stands behind it free, and the
-- label extended. Assumes nothing.
use Prim.Native.Nat.{ℕ, ◌+◌, ◌-◌, ◌≤◌}
use mathlib.Core.Path.{◌≡◌, ◌∙◌}
use mathlib.Core.List.{List, ◌++◌}
use native.Mathlib.Omega.{arith}
use lib.ListN.{length, take, drop, length-append, length-drop}
use lib.Seq.{length-take-le}
use borrow.Author.Rules.{part_to_end}
use Rattle.format.specs.Label.{label_limit}
use Rattle.format.specs.Sheet.{sheet_version, layout}
use Rattle.format.specs.State.{Record}
use Rattle.wire.specs.Laid.{laid}
use Rattle.item.specs.Commonest.{extended}
use Rattle.layout.specs.Freely.{LaidFreely}
use Rattle.layout.proofs.Laws.{Laying, none, both}
use Rattle.layout.specs.Fronts.{label_of}
use Rattle.layout.proofs.Freely.{freely}
use Rattle.laying.specs.Quickly.{name_of, Joined}
use Rattle.laying.specs.declared.Joint.{Joint}

name_length : (j : Joint) (s b : List ℕ) → Joined j s b → length (name_of j s b) ≡ j.keep + j.add
name_length j s b J =
    let x : length (take j.keep b) ≡ j.keep = length-take-le j.keep b (omega (arith, J.few, J.whole)) in
    let z = length-drop 2 s in
    let y : length (take j.add (drop 2 s)) ≡ j.add = length-take-le j.add (drop 2 s) (omega (arith, J.add_few, J.there)) in
    length-append (take j.keep b) (take j.add (drop 2 s)) ∙ omega arith

-- a record with that label, laid so; its added bytes are those of `&s[2..]`
pub named : (r : Record) (j : Joint) (s b d d' : List ℕ) → Joined j s b → label_of r ≡ name_of j s b
    → Laying LaidFreely r (take j.keep b ++ take j.add (take (length s - 2) (drop 2 s))) (j.keep + j.add) d j.out d'
    → LaidFreely d d' j.out (layout sheet_version r)
named r j s b d d' J e X = freely r (name_of j s b) d d' j.out (j.keep + j.add) e (name_length j s b J) (rw (part_to_end s 2) at X)

-- the same, with the first len bytes of b for its label
pub same : (r : Record) (b d d' : List ℕ) (len at : ℕ) → length b ≡ label_limit → len + 16 ≤ label_limit → label_of r ≡ take len b
    → Laying LaidFreely r (take len b) len d at d' → LaidFreely d d' at (layout sheet_version r)
same r b d d' len at w h e = freely r (take len b) d d' at len e (length-take-le len b (omega arith))

pub ruleset freely_laid = (named, same, none, both)

-- the label, extended by `&s[2..]`
pub extends : (b b' s : List ℕ) (keep : ℕ) → b' ≡ laid b keep (take 16 (take (length s - 2) (drop 2 s))) → b' ≡ extended b keep s
extends b b' s keep e = rw (part_to_end s 2) at e

-- how many bytes `&s[2..2 + n]` has
pub two_off : (n : ℕ) → 2 + n - 2 ≡ n
two_off n = omega arith
