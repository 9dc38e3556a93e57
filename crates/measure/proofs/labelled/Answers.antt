-- `measure::labelled` meets its contract. Assumes nothing.
use Rattle.std.specs.Prelude.{Option}
use native.Mathlib.Omega.{arith}
use Prim.Native.Nat.{ℕ, ◌+◌, ◌≤◌}
use mathlib.Core.List.{List}
use mathlib.Core.Bool.{Bool}
use Rattle.kind.specs.declared.Tail.{Tail}
use mathlib.Core.Path.{◌≡◌}
use lib.ListN.{length, drop, length-drop}
use Rattle.format.specs.declared.LabelPart.{LabelPart}
use borrow.Author.Rules.{part_to_end}
use Rattle.format.specs.Bytes.{pick}
use Rattle.format.specs.Items.{new_part, numbers}
use Rattle.length.specs.Parts.{part_at, finished}
use Rattle.kind.specs.Kinds.{tail_of, part_there}
use Rattle.kind.proofs.Labelled.{labelled_there, labelled_fits}
use Rattle.measure.proofs.Items.{label_unfinished, label_six, label_seven, label_tailed}
use Rattle.measure.proofs.labelled.Goals as goal

-- the label part, as it stands there
part_at_lem : (s : List ℕ) (bare : Bool) (tail : Tail) (x r q : Option LabelPart) (n : ℕ)
    → x ≡ pick bare (numbers 0 0 0) (part_at 8 (drop 1 s)) → n ≡ tail_of tail → r ≡ finished x (drop 1 s) n → r ≡ q → q ≡ part_there bare tail new_part s
unfolding part_at pick
part_at_lem s bare tail x r q n ex en e is = labelled_there s bare tail new_part x q n ex en (rw is at e)

-- so the item fits
fits : (s : List ℕ) (bare : Bool) (tail : Tail) (x r : Option LabelPart) (n k d a : ℕ)
    → x ≡ pick bare (numbers 0 0 0) (part_at 8 (drop 1 s)) → n ≡ tail_of tail → r ≡ finished x (drop 1 s) n → r ≡ numbers k d a → 1 ≤ length s
    → 1 + (k + a + n) ≤ length s
fits s bare tail x r n k d a ex en e is h =
    let f = labelled_fits s bare tail new_part _ _ _ (part_at_lem s bare tail x r _ n ex en e is) in
    omega (arith, f, length-drop 1 s)

pub returns-in_default : goal.returns-in_default
returns-in_default c =
    (tt, λ style. label_unfinished c.args.s.now c.args.bare c.args.tail c.args.len style c.args.placed (part_at_lem c.args.s.now c.args.bare c.args.tail _ _ _ _ (simp part_to_end at c.part_of.ensures.0) c.tail_size-n.ensures.0 (simp part_to_end at c.whole_part.ensures) c.in_default.is))

pub returns-then-len-part : goal.returns-then-len-part
returns-then-len-part c =
    (tt, λ style. label_six c.args.s.now c.args.bare c.args.tail c.args.len style c.args.placed _ _ _ (part_at_lem c.args.s.now c.args.bare c.args.tail _ _ _ _ (simp part_to_end at c.part_of.ensures.0) c.tail_size-n.ensures.0 (simp part_to_end at c.whole_part.ensures) c.in-Some.is) c.if-len-part.true)

pub returns-then-keep-part : goal.returns-then-keep-part
returns-then-keep-part c =
    (tt, λ style. label_seven c.args.s.now c.args.bare c.args.tail c.args.len style c.args.placed _ _ _ (part_at_lem c.args.s.now c.args.bare c.args.tail _ _ _ _ (simp part_to_end at c.part_of.ensures.0) c.tail_size-n.ensures.0 (simp part_to_end at c.whole_part.ensures) c.in-Some.is) c.if-len-part.false (omega arith))

pub overflow_add-part : goal.overflow_add-part
overflow_add-part c = omega (arith, (let it : 1 + (c.in-Some.part.size + c.in-Some.part.add + c.tail_size-n.result) ≤ length c.args.s.now = fits c.args.s.now c.args.bare c.args.tail _ _ _ _ _ _ (simp part_to_end at c.part_of.ensures.0) c.tail_size-n.ensures.0 (simp part_to_end at c.whole_part.ensures) c.in-Some.is (omega (arith, c.requires)) in it))

pub overflow_add-part-2 : goal.overflow_add-part-2
overflow_add-part-2 c = omega (arith, (let it : 1 + (c.in-Some.part.size + c.in-Some.part.add + c.tail_size-n.result) ≤ length c.args.s.now = fits c.args.s.now c.args.bare c.args.tail _ _ _ _ _ _ (simp part_to_end at c.part_of.ensures.0) c.tail_size-n.ensures.0 (simp part_to_end at c.whole_part.ensures) c.in-Some.is (omega (arith, c.requires)) in it))

pub overflow_add-part-3 : goal.overflow_add-part-3
overflow_add-part-3 c = omega (arith, (let it : 1 + (c.in-Some.part.size + c.in-Some.part.add + c.tail_size-n.result) ≤ length c.args.s.now = fits c.args.s.now c.args.bare c.args.tail _ _ _ _ _ _ (simp part_to_end at c.part_of.ensures.0) c.tail_size-n.ensures.0 (simp part_to_end at c.whole_part.ensures) c.in-Some.is (omega (arith, c.requires)) in it))

pub returns : goal.returns
returns c =
    let e = (part_at_lem c.args.s.now c.args.bare c.args.tail _ _ _ _ (simp part_to_end at c.part_of.ensures.0) c.tail_size-n.ensures.0 (simp part_to_end at c.whole_part.ensures) c.in-Some.is) in
    let T = rw c.tail_size-n.ensures.0 at c.tailed.ensures in
    (T.0, λ style. label_tailed c.args.s.now c.args.bare c.args.tail c.args.len style c.args.placed _ _ _ e c.if-len-part.false (omega (arith, c.if-keep-part.false)) c.tailed.result T.1)
