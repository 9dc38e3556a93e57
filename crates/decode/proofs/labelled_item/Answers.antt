-- `decode::labelled_item` meets its contract. Assumes nothing.
use Rattle.format.specs.Items.{numbers}
use Rattle.std.specs.Prelude.{Option, Some}
use native.Mathlib.Omega.{arith}
use borrow.Author.Rules.{part_to_end, rules}
use Prim.Native.Nat.{ℕ, ◌+◌, ◌-◌, ◌≤◌}
use mathlib.Core.List.{List}
use mathlib.Core.Bool.{Bool}
use Rattle.format.specs.Bytes.{pick}
use Rattle.kind.specs.declared.Tail.{Tail}
use mathlib.Core.Path.{◌≡◌}
use lib.ListN.{length, take, drop, length-drop}
use Rattle.format.specs.declared.LabelPart.{LabelPart}
use Rattle.length.specs.Parts.{part_at, finished}
use Rattle.kind.specs.Kinds.{tail_of, part_there}
use Rattle.kind.proofs.Labelled.{labelled_there, labelled_fits, labelled_short}
use Rattle.decode.proofs.Labelled.{labelled_whole, suits_back}
use Rattle.decode.proofs.labelled_item.Goals as goal

-- the label part, as it stands behind the code
there : (s : List ℕ) (bare : Bool) (tail : Tail) (version : ℕ) {x r q : Option LabelPart} {n : ℕ}
    → x ≡ pick bare (numbers 0 0 0) (part_at version (take (length s - 1) (drop 1 s))) → n ≡ tail_of tail → r ≡ finished x (take (length s - 1) (drop 1 s)) n → r ≡ q
    → q ≡ part_there bare tail (part_at version) s
there s bare tail version {x} {r} {q} {n} ex en e is =
    labelled_there s bare tail (part_at version) x q n (rw (part_to_end s 1) at ex) en (rw is at (rw (part_to_end s 1) at e))

-- so the item fits
fits : (s : List ℕ) (bare : Bool) (tail : Tail) (version : ℕ) {x r : Option LabelPart} {p : LabelPart} {n : ℕ}
    → x ≡ pick bare (numbers 0 0 0) (part_at version (take (length s - 1) (drop 1 s))) → n ≡ tail_of tail → r ≡ finished x (take (length s - 1) (drop 1 s)) n → r ≡ Some p → 1 ≤ length s
    → 1 + (p.size + p.add + n) ≤ length s
fits s bare tail version {p = p} ex en e is h =
    let f = labelled_fits s bare tail (part_at version) p.size p.drop p.add (there s bare tail version ex en e is) in
    omega (arith, f, en, length-drop 1 s)

pub overflow_add-named : goal.overflow_add-named
overflow_add-named c = omega (arith, fits c.args.s.now c.args.bare c.args.tail c.args.version c.part_of-p.ensures.0 c.tail_size-n.ensures.0 c.whole_part-q.ensures c.in-Some.is c.requires)

pub overflow_add-rest : goal.overflow_add-rest
overflow_add-rest c = omega (arith, fits c.args.s.now c.args.bare c.args.tail c.args.version c.part_of-p.ensures.0 c.tail_size-n.ensures.0 c.whole_part-q.ensures c.in-Some.is c.requires)

pub slice_bounds-body_at-count : goal.slice_bounds-body_at-count
slice_bounds-body_at-count c = omega (arith, fits c.args.s.now c.args.bare c.args.tail c.args.version c.part_of-p.ensures.0 c.tail_size-n.ensures.0 c.whole_part-q.ensures c.in-Some.is c.requires)

pub slice_bounds-body_at-start : goal.slice_bounds-body_at-start
slice_bounds-body_at-start c =
    let f = fits c.args.s.now c.args.bare c.args.tail c.args.version c.part_of-p.ensures.0 c.tail_size-n.ensures.0 c.whole_part-q.ensures c.in-Some.is c.requires in
    search rules

pub body_at-body-requires : goal.body_at-body-requires
body_at-body-requires c =
    let f = fits c.args.s.now c.args.bare c.args.tail c.args.version c.part_of-p.ensures.0 c.tail_size-n.ensures.0 c.whole_part-q.ensures c.in-Some.is c.requires in
    simp part_to_end (simp length-drop (omega (arith, f, c.tail_size-n.ensures)))

pub overflow_add-result : goal.overflow_add-result
overflow_add-result c = omega (arith, fits c.args.s.now c.args.bare c.args.tail c.args.version c.part_of-p.ensures.0 c.tail_size-n.ensures.0 c.whole_part-q.ensures c.in-Some.is c.requires)

pub overflow_add-result-2 : goal.overflow_add-result-2
overflow_add-result-2 c = omega (arith, fits c.args.s.now c.args.bare c.args.tail c.args.version c.part_of-p.ensures.0 c.tail_size-n.ensures.0 c.whole_part-q.ensures c.in-Some.is c.requires)

pub overflow_add-result-3 : goal.overflow_add-result-3
overflow_add-result-3 c = omega (arith, fits c.args.s.now c.args.bare c.args.tail c.args.version c.part_of-p.ensures.0 c.tail_size-n.ensures.0 c.whole_part-q.ensures c.in-Some.is c.requires)

pub returns-in_default : goal.returns-in_default
returns-in_default c =
    let e = there c.args.s.now c.args.bare c.args.tail c.args.version c.part_of-p.ensures.0 c.tail_size-n.ensures.0 c.whole_part-q.ensures c.in_default.is in
    record { same = labelled_short c.args.s.now c.args.bare c.args.tail (part_at c.args.version) e; sound = tt }

pub returns : goal.returns
returns c =
    let body = simp part_to_end at c.body_at-body.ensures in
    let e = there c.args.s.now c.args.bare c.args.tail c.args.version c.part_of-p.ensures.0 c.tail_size-n.ensures.0 c.whole_part-q.ensures c.in-Some.is in
    let f = fits c.args.s.now c.args.bare c.args.tail c.args.version c.part_of-p.ensures.0 c.tail_size-n.ensures.0 c.whole_part-q.ensures c.in-Some.is c.requires in
    let p = c.in-Some.part in
    record {
      same = rw c.tail_size-n.ensures.0 (labelled_whole c.args.s.now c.args.bare c.args.tail (part_at c.args.version) p.size p.drop p.add e _ body);
      sound = (omega (arith, f), suits_back c.body_at-body.result p.drop p.add body.bodied);
    }
