-- A LINE with a label part of one byte is what the writing rules give for the leg that it makes, where nothing stands before it and no more
-- of the label could have stayed. Then `codes_go` says what reading it makes. Assumes nothing.
use Rattle.std.specs.Prelude.{Some}
use Prim.Native.Nat.{ℕ, suc, ◌+◌, ◌-◌, ◌/◌, ◌%◌, ◌≤◌, ◌<◌}
use mathlib.Core.Path.{◌≡◌, refl, sym, ap, ap₂, ◌∙◌}
use mathlib.Core.Bool.{Bool, true, false, ◌&&◌, ◌||◌, not}
use mathlib.Core.List.{List, [], ◌∷◌, ◌++◌, append-nil}
use native.Mathlib.Nat.{add-zero}
use native.Mathlib.Omega.{arith}
use lib.ListN.{length, get_or, take, drop, length-append, length-drop, take-append-drop}
use lib.Seq.{drop-drop, get_or-drop, get_or-take, take-add, take-take, length-take-le, drop-append_seam}
use lib.Dec.{eqb, ltb}
use borrow.Author.Tests.{eq-eqb, lt-ltb, le-ltb, le-leb}
use Rattle.format.specs.Bytes.{same, le32, to_le32, Bytes}
use Rattle.format.specs.Items.{point_of}
use Rattle.format.specs.Fields.{state_of}
use Rattle.format.specs.State.{State, Record}
use Rattle.format.specs.Sheet.{point_bytes}
use Rattle.format.specs.WellFormed.{GoodPoint, WellFormed}
use Rattle.format.specs.Codes.{dated_codes, v8_dates, common, short_part, part_codes, label_codes, style_if, date_if, move_if, line_codes, codes, unsayable}
use Rattle.format.specs.declared.Point.{Point}
use Rattle.format.proofs.Basics.{pick_true, pick_false, and_true, less_or_not}
use Rattle.format.proofs.SheetLaws.{bytes_drop}
use Rattle.format.proofs.WrittenItems.{same_date_refl, same_point_refl}
use Rattle.scan.specs.Places.{state_at}
use Rattle.scan.specs.Keeping.{Swaps}
use Rattle.scan.specs.declared.Place.{Place}
use Rattle.number.proofs.Words.{back_4}
use Rattle.wire.proofs.Laws.{same_false, common_front, common_here, common_spent}
use Rattle.judge.specs.Walking.{Ready, BriefLine, brief_leg, PassedOn}
use Rattle.judge.proofs.One.{steps}

-- ---- a place is written back as it stood

four : (s : List ℕ) → Bytes s → 4 ≤ length s → to_le32 (le32 s) ≡ take 4 s
four s b h = back_4 s h (record { byte_0 = b 0; byte_1 = b 1; byte_2 = b 2; byte_3 = b 3 })

point_back : (y : List ℕ) → Bytes y → 12 ≤ length y → point_bytes to_le32 (point_of le32 y) ≡ take 12 y
point_back y b h =
    let h4 : 4 ≤ length (drop 4 y) = (let z = length-drop 4 y in omega (arith, z)) in
    let h8 : 4 ≤ length (drop 8 y) = (let z = length-drop 8 y in omega (arith, z)) in
    ap₂ ◌++◌ (four y b (omega arith))
    (ap₂ ◌++◌ (four (drop 4 y) (bytes_drop y b 4) h4) (four (drop 8 y) (bytes_drop y b 8) h8 ∙ ap (take 4) (sym (drop-drop 4 4 y))))
    ∙ sym (take-add 4 8 y ∙ ap (λ (x : List ℕ). take 4 y ++ x) (take-add 4 4 (drop 4 y)))

pub point_good : (s : List ℕ) → Bytes s → GoodPoint (point_of le32 s)
unfolding le32
point_good s b =
    let u = bytes_drop s b 4 in
    let v = bytes_drop s b 8 in
    record { x_fits = omega (arith, b 0, b 1, b 2, b 3); y_fits = omega (arith, u 0, u 1, u 2, u 3); z_fits = omega (arith, v 0, v 1, v 2, v 3) }

-- ---- the line

-- its code, its label part, the bytes that come and its place
taken_two : (s : List ℕ) (add : ℕ) → 2 ≤ length s → take (14 + add) s ≡ get_or s 0 0 ∷ get_or s 1 0 ∷ (take add (drop 2 s) ++ take 12 (drop (2 + add) s))
taken_two [] add h = absurd (omega (arith, h))
taken_two (x ∷ []) add h = absurd (omega (arith, h))
taken_two (x ∷ y ∷ t) add h =
    let n : 14 + add ≡ suc (suc (add + 12)) = omega arith in
    let m : 2 + add ≡ suc (suc add) = omega arith in
    rw (n, m) (ap (λ (z : List ℕ). x ∷ y ∷ z) (take-add add 12 t))

or_some : (d a : ℕ) → 0 < d + a → (ltb 0 d || ltb 0 a) ≡ true
or_some d a h =
    less_or_not 0 d (λ k. ap (λ (b : Bool). b || ltb 0 a) (lt-ltb 0 d k)) λ k. ap₂ ◌||◌ (le-ltb 0 d k) (lt-ltb 0 a (omega arith))

module _ (s l : List ℕ) (keep add : ℕ) (L : BriefLine s l keep add) (bytes : Bytes s) where
  abbrev added : List ℕ
  added = take add (drop 2 s)

  abbrev pub name : List ℕ
  name = take keep l ++ added

  added_length : length added ≡ add
  added_length = length-take-le add (drop 2 s) (let z = length-drop 2 s in omega (arith, z, L.there, L.few_add))

  kept_length : length (take keep l) ≡ keep
  kept_length = length-take-le keep l L.kept

  pub name_length : length name ≡ keep + add
  name_length = length-append (take keep l) added ∙ ap₂ ◌+◌ kept_length added_length

  -- no more stays
  no_more : common (drop keep l) added ≡ 0
  no_more =
      less_or_not 0 (length l - keep)
      (λ h.
      less_or_not 0 add
      (λ k.
      let e : get_or (drop keep l) 0 0 ≡ get_or l keep 0 = get_or-drop keep l 0 0 ∙ ap (λ (n : ℕ). get_or l n 0) (add-zero keep) in
      let f : get_or added 0 0 ≡ get_or s 2 0 = first_added k in
      let n = length-drop keep l in
      common_here (drop keep l) added 0 (omega (arith, n)) (omega (arith, added_length)) (λ q. L.differs h k (sym e ∙ q ∙ f)))
      λ k. common_spent (drop keep l) added (omega (arith, added_length)))
      λ h. let n = length-drop keep l in common_spent (drop keep l) added (omega (arith, n))
    where
      first_added : 0 < add → get_or added 0 0 ≡ get_or s 2 0
      first_added k = get_or-take add (drop 2 s) 0 0 k ∙ get_or-drop 2 s 0 0

  common_is : common l name ≡ keep
  common_is =
      ap (λ (x : List ℕ). common x name) (sym (take-append-drop keep l)) ∙ common_front (take keep l) (drop keep l) added
      ∙ ap₂ ◌+◌ kept_length no_more ∙ omega arith

  not_same : same l name ≡ false
  not_same =
      same_false l name
      (λ e.
      let z : length l ≡ keep + add = ap length e ∙ name_length in
      let c : common l l ≡ length l =
      ap (λ (x : List ℕ). common x x) (sym (append-nil l)) ∙ common_front l [] [] ∙ (let y = common_spent [] [] refl in omega (arith, y)) in
      let k : common l l ≡ keep = ap (common l) e ∙ common_is in
      let some = L.some in
      omega arith)

  part_is : part_codes (length l - keep) add ≡ get_or s 1 0 ∷ []
  unfolding part_codes
  part_is = pick_true _ _ short ∙ ap (λ (n : ℕ). n ∷ []) (sym L.part)
    where
      short : short_part (length l - keep) add ≡ true
      short = and_true (and_true (le-leb (length l - keep) 15 L.few_off) (le-leb add 15 L.few_add)) (or_some (length l - keep) add L.some)

  abbrev rest : List ℕ
  rest = drop (2 + add) s

  line_is : line_codes l (get_or s 0 0 - 0x40) (point_of le32 rest) name ≡ take (14 + add) s
  unfolding line_codes label_codes
  line_is =
      let k : length name - keep ≡ add = (let z = name_length in omega (arith, z)) in
      let d : drop keep name ≡ added = ap (λ (n : ℕ). drop n name) (sym kept_length) ∙ drop-append_seam (take keep l) added in
      let c : 0x40 + (get_or s 0 0 - 0x40) ≡ get_or s 0 0 = omega (arith, L.low) in
      let y : 12 ≤ length rest = (let z = length-drop (2 + add) s in omega (arith, z, L.there, L.few_add)) in
      pick_false _ _ not_same
      ∙ rw (common_is, k, d, c, part_is, point_back rest (bytes_drop s bytes (2 + add)) y) (sym (taken_two s add (omega (arith, L.there))))

-- ---- the leg

module _ (s : List ℕ) (st : State) (from : Point) (keep add : ℕ) (stands : st.setting.position ≡ Some from) (L : BriefLine s st.label keep add)
    (bytes : Bytes s) where
  -- style, date and MOVE are left out
  pub brief_codes : codes st (brief_leg s st from keep add) ≡ take (14 + add) s
  unfolding style_if date_if move_if
  brief_codes =
      let style = st.setting.style in
      let date = st.setting.date in
      rw (
        stands,
        pick_true [] (style ∷ []) (eq-eqb style style refl),
        pick_true [] (dated_codes v8_dates date) (same_date_refl date),
        pick_true [] (0x0f ∷ point_bytes to_le32 from) (same_point_refl from),
      )
      (line_is s st.label keep add L bytes)

-- a style after itself is never refused
again : (s : List ℕ) (st : State) (from : Point) (keep add : ℕ) → unsayable st.setting.style (brief_leg s st from keep add) ≡ false
again s st from keep add = go (eqb st.setting.style 5)
  where
    go : (t : Bool) → (t && not t) ≡ false
    go true = refl
    go false = refl

-- `take_brief`
module _ (file : List ℕ) (p : Place) (b : List ℕ) (R : Ready file p b) (bytes : Bytes file) (from : Point) (stands : p.setting.position ≡ Some from)
    (keep add : ℕ)
    (L : BriefLine (drop p.at file) (take p.len b) keep add) where
  abbrev st : State
  st = state_at p b

  abbrev s : List ℕ
  s = drop p.at file

  abbrev r : Record
  r = brief_leg s st from keep add

  s_bytes : Bytes s
  s_bytes = bytes_drop file bytes p.at

  label_length : length (take p.len b) ≡ p.len
  label_length = let i = R.inside in length-take-le p.len b (omega (arith, i.label_short, i.label_whole))

  pub brief_kept : keep ≤ p.len
  brief_kept = omega (arith, L.kept, label_length)

  formed : WellFormed r
  formed =
      let g = R.sound.good in
      let n = name_length s (take p.len b) keep add L s_bytes in
      let low = L.low in
      let high = L.high in
      record {
        flags_fit = omega arith;
        style_fits = g.style_fits;
        date_fits = g.date_fits;
        from_fits = rw stands at g.position_fits;
        to_fits = point_good (drop (2 + add) s) (bytes_drop s s_bytes (2 + add));
        label_fits = omega (arith, n, L.few, L.few_add);
      }

  codes_are : codes st r ≡ take (14 + add) s
  codes_are = brief_codes s st from keep add stands L s_bytes

  size : length (codes st r) ≡ 14 + add
  size = ap length codes_are ∙ length-take-le (14 + add) s (omega (arith, L.there, L.few_add))

  pub takes_brief : (m : ℕ) (b' : List ℕ) → Swaps b' (take (p.len - (p.len - keep)) b ++ take add (drop 2 s)) m
      → PassedOn file p b
      (record {
        at = p.at + 14 + add;
        len = m;
        setting = record { style = p.setting.style; date = p.setting.date; position = Some (point_of le32 (drop (2 + add) s)) };
      })
      b'
  takes_brief m b' K =
      let k : p.len - (p.len - keep) ≡ keep = omega (arith, brief_kept) in
      let l : take m b' ≡ take keep (take p.len b) ++ take add (drop 2 s) =
      K.label_is
      ∙ ap (λ (n : ℕ). take n b ++ take add (drop 2 s)) k
      ∙ ap (λ (x : List ℕ). x ++ take add (drop 2 s)) (sym (take-take keep p.len b brief_kept)) in
      record {
        made = r;
        steps = steps file p b R r formed (again s st from keep add) (ap (λ (n : ℕ). take n s) size ∙ sym codes_are) _ b' (omega (arith, size))
            (ap (state_of (record { style = p.setting.style; date = p.setting.date; position = Some (point_of le32 (drop (2 + add) s)) })) l)
            K.label_short K.label_whole;
      }

-- ---- `brief_line`

pub brief_line_is : (s b : List ℕ) (len part : ℕ) → len ≤ 4096 → length b ≡ 4096 → 29 ≤ length s → 0x40 ≤ get_or s 0 0 → get_or s 0 0 ≤ 0x47
    → part ≡ get_or s 1 0 → part < 256 → (part ≡ 0 → ⊥) → part / 16 ≤ len
    → len - part / 16 ≤ 4080 → (0 < part / 16 → 0 < part % 16 → get_or b (len - part / 16) 0 ≡ get_or s 2 0 → ⊥)
    → BriefLine s (take len b) (len - part / 16) (part % 16)
brief_line_is s b len part short whole there low high is byte some back few differs =
    let n = length-take-le len b (omega arith) in
    record {
      there = there;
      low = low;
      high = high;
      part = omega (arith, n, is);
      some = omega (arith, n, some);
      kept = omega (arith, n);
      few_off = omega (arith, n);
      few_add = omega arith;
      few = omega arith;
      differs = λ h k q. differs (omega (arith, n)) k (sym (get_or-take len b (len - part / 16) 0 (omega (arith, n))) ∙ q);
    }
