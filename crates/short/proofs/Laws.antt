-- What a LINE, a LABEL and an XSECT with a label part of one byte, a LINE with the same label, a MOVE and a trim come to. The item is found by
-- its code; what it comes to in a state is one law of the label step, once for all of them. Assumes nothing.
use Rattle.std.specs.Prelude.{Some, Option, None}
use Prim.Native.Nat.{ℕ, ◌+◌, ◌-◌, ◌/◌, ◌%◌, ◌≤◌, ◌<◌}
use mathlib.Core.Path.{◌≡◌, ap, ◌∙◌}
use mathlib.Core.List.{List, [], append-nil}
use mathlib.Core.Bool.{Bool, true, false}
use native.Mathlib.Omega.{arith}
use lib.ListN.{length, get_or, take, drop, length-drop, length-append}
use lib.Seq.{drop-drop, get_or-drop, length-take-le}
use lib.Dec.{ltb}
use borrow.Author.Tests.{lt-ltb, le-ltb, ne_eqb}
use Rattle.format.specs.Bytes.{pick, le16, le32, widened}
use Rattle.format.specs.Label.{labelled, label_step, label_limit}
use Rattle.format.specs.Items.{Item, Move as move_to, Xsect, whole, reserved, dimensions_of, old_part, new_part, sized, labelled_item, line_item, station_item, section_item, move_item, old_low_item, old_high_item, new_low_item, new_high_item, item_of, numbers}
use Rattle.format.specs.State.{State, on, made, leg, station, section, named, moved}
use Rattle.format.specs.Outline.{drop_leaves}
use Rattle.format.specs.Reading.{next}
use Rattle.format.specs.declared.Cut.TheVariants.{Back}
use Rattle.format.specs.declared.LabelPart.{LabelPart}
use Rattle.format.specs.declared.Point.{Point}
use Rattle.format.proofs.LabelLaws.{step_fits, back_keeps}
use Rattle.short.specs.declared.Short.{Short}
use Rattle.short.specs.declared.Short.TheVariants.{Line, Again, Place, Section, Trim, Move}
use Rattle.short.specs.Brief.{NewBrief, OldBrief, Brief, Moves, Trimmed, TrimCode, RepeatCode, Trims, Repeats, Finds, make_line, make_station, make_section, sides_of, size_of, place_at, leg_at, station_at, section_at, name_at}

taken_first : {X : Type 0} (b : Bool) (x y : X) → b ≡ true → pick b x y ≡ x
unfolding pick
taken_first b x y e = rw e

taken_second : {X : Type 0} (b : Bool) (x y : X) → b ≡ false → pick b x y ≡ y
unfolding pick
taken_second b x y e = rw e

-- ---- the label part

module _ (s : List ℕ) (t : 33 ≤ length s) where
  first : get_or (drop 1 s) 0 0 ≡ get_or s 1 0
  first = get_or-drop 1 s 0 0

  some_there : 1 ≤ length (drop 1 s)
  some_there = omega (arith, length-drop 1 s)

  new_part_lem : (len keep add : ℕ) → NewBrief (get_or s 1 0) len keep add → new_part (drop 1 s) ≡ numbers 1 (len - keep) add
  unfolding new_part pick
  new_part_lem len keep add L =
      let d : get_or s 1 0 / 16 ≡ len - keep = omega (arith, L.keep_is, L.back) in
      simp (le-ltb _ _ some_there, first, ne_eqb _ 0 L.some, d, ← L.add_is)

  old_part_lem : (len keep add : ℕ) → OldBrief (get_or s 1 0) len keep add → old_part (drop 1 s) ≡ numbers 1 (len - keep) add
  unfolding old_part pick
  old_part_lem len keep add L =
      let d : 0 ≡ len - keep = omega (arith, L.keep_is) in
      let h : add < 254 = omega (arith, L.add_few) in
      let e : old_part (drop 1 s) ≡ numbers 1 0 add = simp (le-ltb _ _ some_there, first, ← L.add_is, lt-ltb _ _ h) in
      e ∙ ap (λ (n : ℕ). numbers 1 n add) d

  -- an item with such a part, of n more bytes behind it
  part_item : (d add n : ℕ) (make : ℕ → List ℕ → List ℕ → Item) → add < 16 → n ≤ 16
      → labelled_item (numbers 1 d add) (drop 1 s) n make ≡ whole (2 + add + n) (make d (take add (drop 2 s)) (drop (2 + add) s))
  unfolding labelled_item sized pick
  part_item d add n make h k =
      let w : 1 + add + n ≤ length (drop 1 s) = omega (arith, length-drop 1 s) in
      let z : 1 + (1 + add) ≡ 2 + add = omega arith in
      let y : 1 + (1 + add + n) ≡ 2 + add + n = omega arith in
      simp (le-ltb _ _ w, drop-drop, z, y)

  -- an XSECT, with its sides as i16 or as i32
  sides_item : (c : Bool) (last d add : ℕ) → add < 16
      → pick c
      (labelled_item (numbers 1 d add) (drop 1 s) 8 (λ d added rest. Xsect last (dimensions_of 2 (λ u. widened (le16 u)) rest) d added))
      (labelled_item (numbers 1 d add) (drop 1 s) 16 (λ d added rest. Xsect last (dimensions_of 4 le32 rest) d added))
      ≡ whole (2 + add + pick c 8 16) (Xsect last (pick c (dimensions_of 2 (λ u. widened (le16 u)) (drop (2 + add) s)) (dimensions_of 4 le32 (drop (2 + add) s))) d (take add (drop 2 s)))
  unfolding pick
  sides_item true last d add h = part_item d add 8 (λ d added rest. Xsect last (dimensions_of 2 (λ u. widened (le16 u)) rest) d added) h (omega arith)
  sides_item false last d add h = part_item d add 16 (λ d added rest. Xsect last (dimensions_of 4 le32 rest) d added) h (omega arith)

-- ---- the item, by its code

module _ (version : ℕ) (s : List ℕ) (len keep add : ℕ) (t : 33 ≤ length s) where
  abbrev code : ℕ
  code = get_or s 0 0

  fourteen : 2 + add + 12 ≡ 14 + add
  fourteen = omega arith

  module _ (v : 8 ≤ version) where
    new_high : 0x30 ≤ code → item_of version s ≡ new_high_item code (drop 1 s)
    unfolding item_of pick
    new_high h = let h1 : 1 ≤ length s = omega arith in simp (le-ltb _ _ h1, le-ltb _ _ v, le-ltb _ _ h)

  module _ (v : 8 ≤ version) (L : NewBrief (get_or s 1 0) len keep add) where
    new_brief : (size : ℕ) (make : ℕ → List ℕ → List ℕ → Item) → item_of version s ≡ whole size (make (len - keep) (take add (drop 2 s)) (drop (2 + add) s)) → Brief version s len keep add (2 + add) size make
    new_brief size make e = record { there = t; kept = omega (arith, L.keep_is); few = L.few; add_few = L.add_few; item = e }

    pub new_line : 0x40 ≤ code → code < 0x48 → Brief version s len keep add (2 + add) (14 + add) (make_line (code - 0x40))
    unfolding new_high_item line_item pick
    new_line h k =
        let h1 : 0x30 ≤ code = omega arith in
        let h2 : 0x34 ≤ code = omega arith in
        let e = part_item s t (len - keep) add 12 (make_line (code - 0x40)) L.add_few (omega arith) in
        new_brief (14 + add) (make_line (code - 0x40))
        (new_high v h1 ∙ simp (le-ltb _ _ h2, le-ltb _ _ h, lt-ltb _ _ k, new_part_lem s t len keep add L, e, fourteen))

    pub new_station_lem : 0x80 ≤ code → Brief version s len keep add (2 + add) (14 + add) (make_station (code - 0x80))
    unfolding new_high_item station_item pick
    new_station_lem h =
        let h1 : 0x30 ≤ code = omega arith in
        let h2 : 0x34 ≤ code = omega arith in
        let h3 : 0x40 ≤ code = omega arith in
        let h4 : 0x48 ≤ code = omega arith in
        let h5 : 0x60 ≤ code = omega arith in
        let h6 : 0x68 ≤ code = omega arith in
        let e = part_item s t (len - keep) add 12 (make_station (code - 0x80)) L.add_few (omega arith) in
        new_brief (14 + add) (make_station (code - 0x80))
        (new_high v h1 ∙ simp (le-ltb _ _ h2, le-ltb _ _ h3, le-ltb _ _ h4, le-ltb _ _ h5, le-ltb _ _ h6, le-ltb _ _ h, new_part_lem s t len keep add L, e, fourteen))

    pub new_section_lem : 0x30 ≤ code → code < 0x34 → Brief version s len keep add (2 + add) (2 + add + sides_of code) (make_section code)
    unfolding new_high_item section_item sides_of size_of
    new_section_lem h k =
        let e1 : new_high_item code (drop 1 s) ≡ section_item code (new_part (drop 1 s)) (drop 1 s) = taken_first _ _ _ (lt-ltb _ _ k) in
        let e2 = ap (λ (p : Option LabelPart). section_item code p (drop 1 s)) (new_part_lem s t len keep add L) in
        new_brief (2 + add + sides_of code) (make_section code) (new_high v h ∙ e1 ∙ e2 ∙ sides_item s t (ltb code 0x32) (code % 2) (len - keep) add L.add_few)

  module _ (v : version < 8) (L : OldBrief (get_or s 1 0) len keep add) where
    old_high : 0x30 ≤ code → item_of version s ≡ old_high_item version code (drop 1 s)
    unfolding item_of pick
    old_high h =
        let h1 : 1 ≤ length s = omega arith in
        let h2 : 0x20 ≤ code = omega arith in
        simp (le-ltb _ _ h1, lt-ltb _ _ v, le-ltb _ _ h2, le-ltb _ _ h)

    old_brief : (size : ℕ) (make : ℕ → List ℕ → List ℕ → Item) → item_of version s ≡ whole size (make (len - keep) (take add (drop 2 s)) (drop (2 + add) s)) → Brief version s len keep add (2 + add) size make
    old_brief size make e = record { there = t; kept = omega (arith, L.keep_is); few = L.few; add_few = L.add_few; item = e }

    pub old_section : 5 ≤ version → 0x30 ≤ code → code < 0x34 → Brief version s len keep add (2 + add) (2 + add + sides_of code) (make_section code)
    unfolding old_high_item section_item sides_of size_of
    old_section v5 h k =
        let e1 : old_high_item version code (drop 1 s) ≡ pick (ltb version 5) reserved (section_item code (old_part (drop 1 s)) (drop 1 s)) = taken_first _ _ _ (lt-ltb _ _ k) in
        let e2 = taken_second (ltb version 5) reserved (section_item code (old_part (drop 1 s)) (drop 1 s)) (le-ltb _ _ v5) in
        let e3 = ap (λ (p : Option LabelPart). section_item code p (drop 1 s)) (old_part_lem s t len keep add L) in
        old_brief (2 + add + sides_of code) (make_section code)
        (old_high h ∙ e1 ∙ e2 ∙ e3 ∙ sides_item s t (ltb code 0x32) (code % 2) (len - keep) add L.add_few)

    pub old_station_lem : 0x40 ≤ code → code < 0x60 → Brief version s len keep add (2 + add) (14 + add) (make_station (code - 0x40))
    unfolding old_high_item station_item pick
    old_station_lem h k =
        let h1 : 0x30 ≤ code = omega arith in
        let h2 : 0x34 ≤ code = omega arith in
        let e = part_item s t (len - keep) add 12 (make_station (code - 0x40)) L.add_few (omega arith) in
        old_brief (14 + add) (make_station (code - 0x40))
        (old_high h1 ∙ simp (le-ltb _ _ h2, le-ltb _ _ h, lt-ltb _ _ k, old_part_lem s t len keep add L, e, fourteen))

    pub old_line : 0x80 ≤ code → code ≤ 0x87 → Brief version s len keep add (2 + add) (14 + add) (make_line (code - 0x80))
    unfolding old_high_item line_item pick
    old_line h k =
        let h1 : 0x30 ≤ code = omega arith in
        let h2 : 0x34 ≤ code = omega arith in
        let h3 : 0x40 ≤ code = omega arith in
        let h4 : 0x60 ≤ code = omega arith in
        let h5 : code < 0x88 = omega arith in
        let e = part_item s t (len - keep) add 12 (make_line (code - 0x80)) L.add_few (omega arith) in
        old_brief (14 + add) (make_line (code - 0x80))
        (old_high h1 ∙ simp (le-ltb _ _ h2, le-ltb _ _ h3, le-ltb _ _ h4, le-ltb _ _ h, lt-ltb _ _ h5, old_part_lem s t len keep add L, e, fourteen))

-- ---- a LINE with the same label, and a MOVE

-- its numbers stand straight behind the code
bare_item : (flags : ℕ) (s : List ℕ) → 33 ≤ length s → line_item flags (numbers 0 0 0) (drop 1 s) ≡ whole 13 (make_line flags 0 [] (drop 1 s))
unfolding line_item labelled_item sized pick
bare_item flags s t = let h : 12 ≤ length (drop 1 s) = omega (arith, length-drop 1 s) in simp (le-ltb _ _ h)

pub new_again : (version : ℕ) (s : List ℕ) (len flags : ℕ) → 33 ≤ length s → 8 ≤ version → 0x60 ≤ get_or s 0 0 → RepeatCode (get_or s 0 0) len flags
    → Brief version s len len 0 1 13 (make_line flags)
unfolding new_high_item pick
new_again version s len flags t v low R =
    let high = R.high in
    let h1 : 0x30 ≤ get_or s 0 0 = omega arith in
    let h2 : 0x34 ≤ get_or s 0 0 = omega arith in
    let h3 : 0x40 ≤ get_or s 0 0 = omega arith in
    let h4 : 0x48 ≤ get_or s 0 0 = omega arith in
    let z : 0 ≡ len - len = omega arith in
    let e = new_high version s len len 0 t v h1 in
    let b = bare_item (get_or s 0 0 - 0x60) s t in
    record {
      there = t;
      kept = omega arith;
      few = R.few;
      add_few = omega arith;
      item = rw (← z, R.flags_are) (e ∙ simp (le-ltb _ _ h2, le-ltb _ _ h3, le-ltb _ _ h4, le-ltb _ _ low, lt-ltb _ _ high, b));
    }

-- the answer of `same_label` is that of the item
pub repeats_found : (r : Option Short) (version : ℕ) (s : List ℕ) (len : ℕ) → 8 ≤ version → 33 ≤ length s → 0x60 ≤ get_or s 0 0 → Repeats r (get_or s 0 0) len
    → Finds r version s len
repeats_found None version s len v t l R = tt
repeats_found (Some (Line keep add flags)) version s len v t l R = absurd R
repeats_found (Some (Again flags)) version s len v t l R = new_again version s len flags t v l R
repeats_found (Some (Place keep add flags)) version s len v t l R = absurd R
repeats_found (Some (Section keep add c)) version s len v t l R = absurd R
repeats_found (Some (Trim m)) version s len v t l R = absurd R
repeats_found (Some Move) version s len v t l R = absurd R

move_whole : (s : List ℕ) → 33 ≤ length s → move_item s ≡ whole 13 (move_to (place_at s 1))
unfolding move_item sized pick
move_whole s t = let h : 13 ≤ length s = omega arith in simp (le-ltb _ _ h)

pub old_move : (version : ℕ) (s : List ℕ) → version < 8 → 33 ≤ length s → get_or s 0 0 ≡ 0x0f → Moves version s
unfolding item_of old_low_item pick
old_move version s v t e =
    let h : 1 ≤ length s = omega arith in
    record { there = t; item = simp (le-ltb _ _ h, lt-ltb _ _ v, e, move_whole s t) }

pub new_move : (version : ℕ) (s : List ℕ) → 8 ≤ version → 33 ≤ length s → get_or s 0 0 ≡ 0x0f → Moves version s
unfolding item_of new_low_item pick
new_move version s v t e =
    let h : 1 ≤ length s = omega arith in
    record { there = t; item = simp (le-ltb _ _ h, le-ltb _ _ v, e, move_whole s t) }

-- ---- a trim

pub trim_item : (version : ℕ) (s : List ℕ) (len keep : ℕ) → version < 8 → 33 ≤ length s → len ≤ label_limit → TrimCode (get_or s 0 0) len keep → Trimmed version s len keep
unfolding item_of old_low_item pick
trim_item version s len keep v t w T =
    let low = T.low in
    let high = T.high in
    let drops = T.drops in
    let k = T.keep_is in
    let h0 : 1 ≤ length s = omega arith in
    let h1 : get_or s 0 0 < 0x20 = omega arith in
    let h2 : get_or s 0 0 ≡ 0 → ⊥ = λ e. omega arith in
    let h3 : 0x0f ≤ get_or s 0 0 = omega arith in
    let h4 : get_or s 0 0 ≡ 0x0f → ⊥ = λ e. omega arith in
    let z : get_or s 0 0 - 15 ≡ len - keep = omega arith in
    record {
      there = t;
      kept = omega arith;
      some = omega arith;
      short = w;
      item = simp (le-ltb _ _ h0, lt-ltb _ _ v, lt-ltb _ _ h1, ne_eqb _ 0 h2, le-ltb _ _ h3, ne_eqb _ 15 h4, z);
    }

-- the answer of `trim` is that of the item
pub trims_found : (r : Option Short) (version : ℕ) (s : List ℕ) (len : ℕ) → version < 8 → 33 ≤ length s → len ≤ label_limit → Trims r (get_or s 0 0) len → Finds r version s len
trims_found None version s len v t w T = tt
trims_found (Some (Line keep add flags)) version s len v t w T = absurd T
trims_found (Some (Again flags)) version s len v t w T = absurd T
trims_found (Some (Place keep add flags)) version s len v t w T = absurd T
trims_found (Some (Section keep add c)) version s len v t w T = absurd T
trims_found (Some (Trim m)) version s len v t w T = trim_item version s len m v t w T
trims_found (Some Move) version s len v t w e = old_move version s v t e

-- ---- what it comes to

module _ {version : ℕ} {s : List ℕ} {len keep add k size : ℕ} {make : ℕ → List ℕ → List ℕ → Item} (B : Brief version s len keep add k size make) where
  pub added_length : length (take add (drop 2 s)) ≡ add
  added_length = length-take-le add (drop 2 s) (omega (arith, length-drop 2 s, B.there, B.add_few))

  -- THE label step, once for all of them
  pub brief_label : (l : List ℕ) → length l ≡ len → label_step l (Back (len - keep)) (take add (drop 2 s)) ≡ labelled (name_at s keep add l)
  brief_label l e =
      let h = B.kept in
      let k : length l - (len - keep) ≡ keep = omega arith in
      let a = added_length in
      let w : length l - (len - keep) + length (take add (drop 2 s)) ≤ label_limit = omega (arith, B.few, B.add_few) in
      step_fits l (Back (len - keep)) (take add (drop 2 s)) (length l - (len - keep)) (back_keeps l (len - keep) (omega arith)) w ∙ rw k

  pub name_length : (l : List ℕ) → length l ≡ len → length (name_at s keep add l) ≡ keep + add
  name_length l e =
      let k = length-take-le keep l (omega (arith, B.kept)) in
      let a = added_length in
      length-append (take keep l) (take add (drop 2 s)) ∙ omega arith

  -- how many bytes of the label it keeps (#107)
  kept_is : (l : List ℕ) → length l ≡ len → length l - (len - keep) ≡ keep
  kept_is l e = omega (arith, B.kept)

module _ {version : ℕ} {s : List ℕ} {len keep add k size flags : ℕ} (B : Brief version s len keep add k size (make_line flags)) where
  -- in every state with a label of so many bytes and a position, the next item is exactly this leg, and this is the state after it
  pub brief_leg_lem : (st : State) → length st.label ≡ len → (from : Point) → st.setting.position ≡ Some from
      → next version s st ≡ made size (leg (leg_at s k flags st.setting from) (name_at s keep add st.label)) (moved (place_at s k) (named (name_at s keep add st.label) st))
  unfolding next
  brief_leg_lem st e from p = simp (B.item, brief_label B st.label e, p)

  pub leg_kept : (l : List ℕ) → length l ≡ len → drop_leaves l (item_of version s) ≡ keep
  leg_kept l e = rw B.item (kept_is B l e)

module _ {version : ℕ} {s : List ℕ} {len keep add k size flags : ℕ} (B : Brief version s len keep add k size (make_station flags)) where
  pub brief_station : (st : State) → length st.label ≡ len
      → next version s st ≡ made size (station (station_at s k flags) (name_at s keep add st.label)) (named (name_at s keep add st.label) st)
  unfolding next
  brief_station st e = simp (B.item, brief_label B st.label e)

  pub station_kept : (l : List ℕ) → length l ≡ len → drop_leaves l (item_of version s) ≡ keep
  station_kept l e = rw B.item (kept_is B l e)

module _ {version : ℕ} {s : List ℕ} {len keep add k size : ℕ} (code : ℕ) (B : Brief version s len keep add k size (make_section code)) where
  pub brief_section : (st : State) → length st.label ≡ len
      → next version s st ≡ made size (section (section_at s k code st.setting) (name_at s keep add st.label)) (named (name_at s keep add st.label) st)
  unfolding next
  brief_section st e = simp (B.item, brief_label B st.label e)

  pub section_kept : (l : List ℕ) → length l ≡ len → drop_leaves l (item_of version s) ≡ keep
  section_kept l e = rw B.item (kept_is B l e)

pub brief_move : {version : ℕ} {s : List ℕ} → Moves version s → (st : State) → next version s st ≡ on 13 (moved (place_at s 1) st)
unfolding next
brief_move M st = simp M.item

pub brief_trim : {version : ℕ} {s : List ℕ} {len keep : ℕ} → Trimmed version s len keep → (st : State) → length st.label ≡ len → next version s st ≡ on 1 (named (take keep st.label) st)
unfolding next label_step pick
brief_trim {version} {s} {len} {keep} T st e =
    let a = T.some in
    let b = T.kept in
    let h : len - keep < length st.label = omega arith in
    let k : length st.label - (len - keep) ≡ keep = omega arith in
    let w : keep + 0 ≤ label_limit = omega (arith, T.short) in
    simp (T.item, lt-ltb _ _ h, k, le-ltb _ _ w, append-nil)
