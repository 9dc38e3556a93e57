-- A record that goes on, where it stands in a sheet: its label, and the bytes that are added to the previous one. Assumes nothing.
use Rattle.std.specs.Prelude.{Option}
use Rattle.format.specs.declared.Point.{Point}
use Prim.Native.Nat.{ℕ, ◌+◌, ◌-◌, ◌≤◌, ◌<◌}
use mathlib.Core.Path.{◌≡◌, ap, ◌∙◌}
use mathlib.Core.List.{List}
use native.Mathlib.Omega.{arith}
use lib.ListN.{length, take, drop, length-take, length-drop}
use lib.Seq.{drop-drop}
use borrow.Author.Rules.{part_to_end}
use Rattle.sheet.specs.Seen.{label_of}
use Rattle.sheet.proofs.EntryAt.{part}
use Rattle.plain.proofs.Finds.{drop_take}
use Rattle.plain.specs.Plainly.{label_at, Plainly}
use Rattle.plain.specs.declared.Form.{Form}
use Rattle.plain.specs.declared.Form.TheVariants.{Leg, Station, Narrow, Wide}

label_some : (form : Form) → (16 ≤ label_at form) × (label_at form ≤ 34)
label_some Leg = (omega arith, omega arith)
label_some Station = (omega arith, omega arith)
label_some Narrow = (omega arith, omega arith)
label_some Wide = (omega arith, omega arith)

-- where it ends in the sheet, and what of its label is kept, dropped and added
pub record Sizes (sheet : List ℕ) (at from to size kept label : ℕ) : Type 0 where
  pub ends : at + size ≤ length sheet
  pub starts : label + kept ≤ size
  pub some : 16 ≤ label
  pub few : label ≤ 34
  pub first : kept ≤ to - from
  pub few_dropped : to - from - kept ≤ 15
  pub few_added : size - label - kept ≤ 15

module _ (version : ℕ) (sheet : List ℕ) (at mark : ℕ) (position : Option Point) (from to size kept code : ℕ) (form : Form) (h : at < length sheet)
    (i : to ≤ length sheet)
    (P : Plainly version (take (length sheet - at) (drop at sheet)) mark position (part sheet from to) size kept code form) where
  abbrev s : List ℕ
  s = take (length sheet - at) (drop at sheet)

  pub last_long : length (part sheet from to) ≡ to - from
  last_long = simp (length-take, length-drop) (omega arith)

  ends_in : at + size ≤ length sheet
  ends_in = let l : length s ≡ length sheet - at = simp (length-take, length-drop) (omega arith) in omega (arith, l, P.within)

  pub plain_sizes : Sizes sheet at from to size kept (label_at form)
  plain_sizes =
      let l = last_long in
      let z = label_some form in
      record {
        ends = ends_in;
        starts = P.kept_second;
        some = z.0;
        few = z.1;
        first = omega (arith, l, P.kept_first);
        few_dropped = omega (arith, l, P.few_dropped);
        few_added = P.few_added;
      }

  pub name_is : label_of size (label_at form) s ≡ part sheet (at + label_at form) (at + size)
  name_is = let z : at + size - (at + label_at form) ≡ size - label_at form = omega arith in rw (part_to_end sheet at, drop-drop (label_at form) at sheet, z)

  pub added_is : drop kept (label_of size (label_at form) s) ≡ part sheet (at + label_at form + kept) (at + size)
  added_is =
      let z : at + size - (at + label_at form) - kept ≡ at + size - (at + label_at form + kept) = omega arith in
      let b = ends_in in
      ap (drop kept) name_is
      ∙ drop_take kept (at + size - (at + label_at form)) (drop (at + label_at form) sheet) (omega (arith, P.kept_second))
      (simp length-drop (omega (arith, b)))
      ∙ rw (drop-drop kept (at + label_at form) sheet, z)

  pub added_long : length (part sheet (at + label_at form + kept) (at + size)) ≡ size - label_at form - kept
  added_long = let b = ends_in in simp (length-take, length-drop) (omega (arith, b))
