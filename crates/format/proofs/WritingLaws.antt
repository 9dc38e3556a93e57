-- Laws of writing: any writer's codes of records in a row, and for v8 `codes_read`: from any state, reading the codes of a record makes
-- exactly that record, leaves the state that writing leaves, and goes on at what follows. Assumes nothing.
use Rattle.std.specs.Prelude.{Some}
use Prim.Native.Nat.{ℕ, suc, ◌+◌, ◌-◌, ◌*◌, ◌/◌, ◌%◌, ◌≤◌, ◌<◌}
use mathlib.Core.Path.{◌≡◌, refl, sym, ap, ap₂, ◌∙◌}
use mathlib.Core.List.{List, [], ◌∷◌, ◌++◌, append_assoc}
use mathlib.Core.Bool.{Bool, true, false, ◌&&◌, ◌||◌, not}
use native.Mathlib.Omega.{arith}
use lib.ListN.{length, take, drop, length-append, length-drop, take-append-drop}
use lib.Seq.{drop-append_seam, drop-length}
use lib.Dec.{eqb, ltb, leb}
use borrow.Author.Tests.{ltb-true, leb-true, eqb-true, eqb-false, lt-ltb, le-ltb, eq-eqb, ne_eqb, not-false}
use Rattle.format.specs.Bytes.{pick, same, to_le16, to_le32}
use Rattle.format.specs.Label.{labelled, label_step, label_limit}
use Rattle.format.specs.declared.Cut.TheVariants.{Back}
use Rattle.format.specs.Items.{Style, Xsect, Label, Line, whole, sized, length_size, length_value, long_part, new_part, labelled_item, station_item, line_item, section_item, move_item, error_item, new_date_item, new_low_item, new_high_item, item_of, numbers}
use Rattle.format.specs.State.{State, Record, leg, station, section, error, named, styled, dated_by, moved, on, made}
use Rattle.format.specs.Sheet.{point_bytes, dimension_bytes, traverse_bytes}
use Rattle.format.specs.Refusals.{stop, Good}
use Rattle.format.specs.WellFormed.{GoodPoint, GoodDimensions, GoodTraverse, GoodLeg, GoodStation, GoodSection, WellFormed}
use Rattle.format.specs.Reading.{next, run}
use Rattle.format.specs.Writing.{Writer, codes_all, after_all, encode_all, records_verdict}
use Rattle.format.specs.Codes.{common, length_codes, part_codes, label_codes, kept_bytes, v8_dates, style_if, date_if, move_if, line_codes, station_codes, all_short, section_codes, error_codes, codes, setting_after, after, closing, unsayable}
use Rattle.format.specs.declared.Point.{Point}
use Rattle.format.specs.declared.Dimensions.{Dimensions}
use Rattle.format.specs.declared.Traverse.{Traverse}
use Rattle.format.specs.declared.Setting.{Setting}
use Rattle.format.specs.declared.Fields.{Fields}
use Rattle.format.specs.declared.Fields.TheVariants.{Leg as FieldsLeg, Station as FieldsStation, Section as FieldsSection, Error as FieldsError}
use Rattle.format.specs.Fields.{record_of}
use Rattle.format.specs.declared.Leg.{Leg}
use Rattle.format.specs.declared.Station.{Station}
use Rattle.format.specs.declared.Section.{Section}
use Rattle.format.proofs.Basics.{pick_case, second_picked, both, same_true, same_refl, le32_to}
use Rattle.format.proofs.Rows.{le32_width, point_back}
use Rattle.format.proofs.LabelLaws.{step_fits, back_keeps}
use Rattle.format.proofs.ApplyLaws.{style_first, style_end}
use Rattle.format.proofs.ReadingLaws.{run_done, run_on}
use Rattle.format.proofs.GoingLaws.{Goes, goes_as, goes_made, goes_append}
use Rattle.format.proofs.WrittenItems.{there, PartRead, station_read_back, line_read_back, short_section_read_back, wide_section_read_back, written_if, DatesRead, date_if_read, move_if_read, error_next}

-- ---- any writer: records in a row

module _ (w : Writer) where
  pub codes_append : (xs ys : List Record) (st : State) → codes_all w st (xs ++ ys) ≡ codes_all w st xs ++ codes_all w (after_all w st xs) ys
  unfolding codes_all after_all
  codes_append [] ys st = refl
  codes_append (x ∷ xs) ys st = rw (codes_append xs ys (w.after st x), append_assoc)

  pub after_append : (xs ys : List Record) (st : State) → after_all w st (xs ++ ys) ≡ after_all w (after_all w st xs) ys
  unfolding after_all
  after_append [] ys st = refl
  after_append (x ∷ xs) ys st = after_append xs ys (w.after st x)

  -- so two lists of records with a common front have files with a common front, and from where they leave the same state on, equal
  -- records have equal bytes
  pub encode_append : (xs ys : List Record) (st : State) → encode_all w st (xs ++ ys) ≡ codes_all w st xs ++ encode_all w (after_all w st xs) ys
  unfolding encode_all
  encode_append xs ys st = rw (codes_append xs ys st, after_append xs ys st, append_assoc)

  -- a record that the writer can write, and those after it
  pub able : (n : ℕ) (st : State) (r : Record) (rs : List Record) → records_verdict w n st (r ∷ rs) ≡ Good → (w.unable st r ≡ false) × (records_verdict w (n + 1) (w.after st r) rs ≡ Good)
  unfolding records_verdict
  able n st r rs e = second_picked (λ q. let z : ◌≡◌ {A = ℕ} 0 1 = cc in omega arith) e

-- ---- 13 and the setting that a record leaves look at no label

pub unsayable_at : (old : ℕ) (f : Fields) (l : List ℕ) → unsayable old (record_of f []) ≡ unsayable old (record_of f l)
unsayable_at old (FieldsLeg flags style date from to) l = refl
unsayable_at old (FieldsStation s) l = refl
unsayable_at old (FieldsSection last unused date size) l = refl
unsayable_at old (FieldsError traverse) l = refl

pub setting_at : (setting : Setting) (f : Fields) (l : List ℕ) → setting_after setting (record_of f []) ≡ setting_after setting (record_of f l)
setting_at setting (FieldsLeg flags style date from to) l = refl
setting_at setting (FieldsStation s) l = refl
setting_at setting (FieldsSection last unused date size) l = refl
setting_at setting (FieldsError traverse) l = refl

-- ---- `common` and `kept_bytes`

pub common_le : (l m : List ℕ) → (common l m ≤ length l) × (common l m ≤ length m)
unfolding common pick
common_le [] m = (omega arith, omega arith)
common_le (x ∷ l) [] = (omega arith, omega arith)
common_le (x ∷ l) (y ∷ m) = go (eqb x y) (common_le l m)
  where
    go : (b : Bool) → (common l m ≤ length l) × (common l m ≤ length m) → (pick b (suc (common l m)) 0 ≤ suc (length l)) × (pick b (suc (common l m)) 0 ≤ suc (length m))
    go true h = (omega arith, omega arith)
    go false h = (omega arith, omega arith)

pub common_take : (l m : List ℕ) → take (common l m) l ≡ take (common l m) m
unfolding common pick
common_take [] m = refl
common_take (x ∷ l) [] = refl
common_take (x ∷ l) (y ∷ m) = go (eqb x y) refl (common_take l m)
  where
    go : (b : Bool) → eqb x y ≡ b → take (common l m) l ≡ take (common l m) m → take (pick b (suc (common l m)) 0) (x ∷ l) ≡ take (pick b (suc (common l m)) 0) (y ∷ m)
    go true e h = ap₂ (λ (a : ℕ) (t : List ℕ). a ∷ t) (eqb-true x y e) h
    go false e h = refl

-- k bytes that two labels share at the front
pub record Shares (l m : List ℕ) (k : ℕ) : Type 0 where
  pub first : k ≤ length l
  pub second : k ≤ length m
  pub equal : take k l ≡ take k m

pub common_shares : (l m : List ℕ) → Shares l m (common l m)
common_shares l m = record { first = (common_le l m).0; second = (common_le l m).1; equal = common_take l m }

same_shares : (l m : List ℕ) (k : ℕ) → l ≡ m → k ≤ length l → Shares l m k
same_shares l m k e h = record { first = h; second = let z = ap length e in omega arith; equal = rw e }

pub kept_shares : (l m : List ℕ) → Shares l m (kept_bytes l m)
unfolding kept_bytes
kept_shares l m = pick_case (Shares l m) _ _ _ (λ e. same_shares l m _ (same_true l m e) (omega arith)) (λ e. common_shares l m)

-- "a station or section with the same non-empty label drops and appends its last byte (D = A = 1)": 0x11 and that byte
pub equal_label : (l : List ℕ) (b : ℕ) → label_codes (l ++ (b ∷ [])) (l ++ (b ∷ [])) (kept_bytes (l ++ (b ∷ [])) (l ++ (b ∷ []))) ≡ 17 ∷ b ∷ []
unfolding label_codes kept_bytes part_codes pick
equal_label l b =
    let m = l ++ (b ∷ []) in
    let n : length m ≡ length l + 1 = length-append l (b ∷ []) in
    let k : length m - 1 ≡ length l = omega arith in
    let d : length m - length l ≡ 1 = omega arith in
    simp (same_refl m, k, d, drop-append_seam l (b ∷ []))

-- ---- label parts

length_size_lem : (n : ℕ) (rest : List ℕ) → length_size (length_codes n ++ rest) ≡ length (length_codes n)
unfolding length_size length_codes to_le32 pick
length_size_lem n rest =
    pick_case (λ (x : List ℕ). length_size (x ++ rest) ≡ length x) (ltb n 255) (n ∷ []) (255 ∷ to_le32 n) (λ e. simp (e, le-ltb (suc (length rest)) 1 (omega arith)))
    λ e. simp (le-ltb (suc (suc (suc (suc (suc (length rest)))))) 1 (omega arith), le-ltb (suc (suc (suc (suc (suc (length rest)))))) 5 (omega arith))

length_value_lem : (n : ℕ) (rest : List ℕ) → n < 4294967296 → length_value (length_codes n ++ rest) ≡ n
unfolding length_value length_codes pick
length_value_lem n rest h = pick_case (λ (x : List ℕ). length_value (x ++ rest) ≡ n) (ltb n 255) (n ∷ []) (255 ∷ to_le32 n) (λ e. simp e) (λ e. le32_to n rest h)

pub length_codes_lem : (n : ℕ) → (1 ≤ length (length_codes n)) × (length (length_codes n) ≤ 5)
unfolding length_codes to_le32
length_codes_lem n = pick_case (λ (x : List ℕ). (1 ≤ length x) × (length x ≤ 5)) _ _ _ (λ e. (omega arith, omega arith)) (λ e. (omega arith, omega arith))

long_read : (d a : ℕ) (rest : List ℕ) → d < 4294967296 → a < 4294967296
    → long_part (0 ∷ (length_codes d ++ (length_codes a ++ rest))) ≡ numbers (length (0 ∷ (length_codes d ++ length_codes a))) d a
unfolding long_part pick
long_read d a rest hd ha =
    let D = length_codes d in
    let A = length_codes a in
    let z : 1 + length D ≡ suc (length D) = omega arith in
    let e : drop (1 + length D) (0 ∷ (D ++ (A ++ rest))) ≡ A ++ rest = rw z (drop-append_seam D (A ++ rest)) in
    let n : 1 + length D + length A ≡ suc (length (D ++ A)) = simp length-append (omega arith) in
    let x : length D ≡ 0 → ⊥ = λ q. omega (arith, length_codes_lem d) in
    let y : length A ≡ 0 → ⊥ = λ q. omega (arith, length_codes_lem a) in
    simp (length_size_lem d (A ++ rest), e, length_size_lem a rest, ne_eqb _ _ x, ne_eqb _ _ y, length_value_lem d (A ++ rest) hd, length_value_lem a rest ha, n)

either_positive : (d a : ℕ) → (ltb 0 d || ltb 0 a) ≡ true → 0 < d + a
either_positive d a e = go (ltb 0 d) refl e
  where
    go : (b : Bool) → ltb 0 d ≡ b → (b || ltb 0 a) ≡ true → 0 < d + a
    go true q e = omega (arith, ltb-true 0 d q)
    go false q e = omega (arith, ltb-true 0 a e)

-- the numbers of a label part are read back
pub part_read : (d a : ℕ) (rest : List ℕ) → d < 4294967296 → a < 4294967296 → new_part (part_codes d a ++ rest) ≡ numbers (length (part_codes d a)) d a
unfolding new_part part_codes pick
part_read d a rest hd ha = go ((leb d 15 && leb a 15) && (ltb 0 d || ltb 0 a)) refl
  where
    go : (b : Bool) → ((leb d 15 && leb a 15) && (ltb 0 d || ltb 0 a)) ≡ b
        → new_part (pick b ((16 * d + a) ∷ []) (0 ∷ (length_codes d ++ length_codes a)) ++ rest) ≡ numbers (length (pick b ((16 * d + a) ∷ []) (0 ∷ (length_codes d ++ length_codes a)))) d a
    go true e =
        let p = both (leb d 15 && leb a 15) (ltb 0 d || ltb 0 a) e in
        let q = both (leb d 15) (leb a 15) p.0 in
        let ha : a ≤ 15 = leb-true a 15 q.1 in
        let x : 16 * d + a ≡ 0 → ⊥ = λ r. omega (arith, either_positive d a p.1) in
        let ed : (16 * d + a) / 16 ≡ d = omega arith in
        let ea : (16 * d + a) % 16 ≡ a = omega arith in
        simp (le-ltb (suc (length rest)) 1 (omega arith), ne_eqb _ _ x, ed, ea)
    go false e =
        rw (append_assoc (length_codes d) (length_codes a) rest, le-ltb (suc (length (length_codes d ++ (length_codes a ++ rest)))) 1 (omega arith))
        (long_read d a rest hd ha)

-- ---- an item with a label

-- the label step undoes the label part
pub label_read : (l m : List ℕ) (k : ℕ) → Shares l m k → length m ≤ label_limit → label_step l (Back (length l - k)) (drop k m) ≡ labelled m
label_read l m k s h =
    let f = s.first in
    let g = s.second in
    let a : length l - k ≤ length l = omega arith in
    let b : length l - (length l - k) ≡ k = omega arith in
    let c : k + length (drop k m) ≡ length m = simp length-drop (omega arith) in
    let e : take k l ++ drop k m ≡ m = ap (λ (x : List ℕ). x ++ drop k m) s.equal ∙ take-append-drop k m in
    step_fits l (Back (length l - k)) (drop k m) k (back_keeps l (length l - k) a ∙ rw b) (omega arith) ∙ ap labelled e

-- no label bytes and no change
label_same : (l : List ℕ) → length l ≤ label_limit → label_step l (Back 0) [] ≡ labelled l
label_same l h =
    let z : length l - length l ≡ 0 = omega arith in
    rw (z, drop-length) at (label_read l l (length l) (record { first = omega arith; second = omega arith; equal = refl }) h)

-- ---- which item a code of v8 is

module _ (c : ℕ) (t : List ℕ) where
  code_station : 128 ≤ c → item_of 8 (c ∷ t) ≡ station_item (c - 0x80) (new_part t) t
  unfolding item_of new_high_item pick
  code_station h =
      simp (there c t, le-ltb c 48 (omega arith), le-ltb c 52 (omega arith), le-ltb c 64 (omega arith), le-ltb c 72 (omega arith), le-ltb c 96 (omega arith), le-ltb c 104 (omega arith), le-ltb c 128 (omega arith))

  code_line : 64 ≤ c → c < 72 → item_of 8 (c ∷ t) ≡ line_item (c - 0x40) (new_part t) t
  unfolding item_of new_high_item pick
  code_line h k = simp (there c t, le-ltb c 48 (omega arith), le-ltb c 52 (omega arith), le-ltb c 64 (omega arith), lt-ltb c 72 k)

  code_same_line : 96 ≤ c → c < 104 → item_of 8 (c ∷ t) ≡ line_item (c - 0x60) (numbers 0 0 0) t
  unfolding item_of new_high_item pick
  code_same_line h k =
      simp (there c t, le-ltb c 48 (omega arith), le-ltb c 52 (omega arith), le-ltb c 64 (omega arith), le-ltb c 72 (omega arith), le-ltb c 96 (omega arith), lt-ltb c 104 k)

  code_section : 48 ≤ c → c < 52 → item_of 8 (c ∷ t) ≡ section_item c (new_part t) t
  unfolding item_of new_high_item pick
  code_section h k = simp (there c t, le-ltb c 48 (omega arith), lt-ltb c 52 k)

  code_style : c < 5 → item_of 8 (c ∷ t) ≡ whole 1 (Style c)
  unfolding item_of new_low_item pick
  code_style h = simp (there c t, lt-ltb c 48 (omega arith), lt-ltb c 5 h)

-- ---- the items that writing makes, with what follows them

module _ (l m : List ℕ) (k : ℕ) (hl : length l ≤ label_limit) (hm : length m ≤ label_limit) where
  -- a code, the label part and what follows it
  abbrev item : ℕ → List ℕ → List ℕ
  item c fields = c ∷ (label_codes l m k ++ fields)

  part_back : PartRead new_part (part_codes (length l - k) (length m - k)) (length l - k) (drop k m)
  part_back = record { numbers = λ tail. rw (length-drop k m) (part_read (length l - k) (length m - k) (drop k m ++ tail) (omega arith) (omega arith)) }

  pub station_item_lem : (flags : ℕ) (p : Point) (rest : List ℕ) → GoodPoint p
      → item_of 8 (item (0x80 + flags) (point_bytes to_le32 p) ++ rest) ≡ whole (length (item (0x80 + flags) (point_bytes to_le32 p))) (Label flags p (length l - k) (drop k m))
  unfolding label_codes
  station_item_lem flags p rest g =
      let z : 0x80 + flags - 0x80 ≡ flags = omega arith in
      station_read_back 8 part_back (0x80 + flags) rest flags p (λ t. code_station (0x80 + flags) t (omega arith) ∙ rw z) g

  pub line_item_lem : (flags : ℕ) (p : Point) (rest : List ℕ) → flags ≤ 7 → GoodPoint p
      → item_of 8 (item (0x40 + flags) (point_bytes to_le32 p) ++ rest) ≡ whole (length (item (0x40 + flags) (point_bytes to_le32 p))) (Line flags p (length l - k) (drop k m))
  unfolding label_codes
  line_item_lem flags p rest h g =
      let z : 0x40 + flags - 0x40 ≡ flags = omega arith in
      line_read_back 8 part_back (0x40 + flags) rest flags p (λ t. code_line (0x40 + flags) t (omega arith) (omega arith) ∙ rw z) g

  pub short_section_item : (last : ℕ) (d : Dimensions) (rest : List ℕ) → last ≤ 1 → GoodDimensions d → all_short d ≡ true
      → item_of 8 (item (0x30 + last) (dimension_bytes to_le16 d) ++ rest) ≡ whole (length (item (0x30 + last) (dimension_bytes to_le16 d))) (Xsect last d (length l - k) (drop k m))
  unfolding label_codes
  short_section_item last d rest h g e =
      short_section_read_back 8 part_back (0x30 + last) rest last d (λ t. code_section (0x30 + last) t (omega arith) (omega arith)) (omega arith) g (omega arith) e

  pub wide_section_item : (last : ℕ) (d : Dimensions) (rest : List ℕ) → last ≤ 1 → GoodDimensions d
      → item_of 8 (item (0x32 + last) (dimension_bytes to_le32 d) ++ rest) ≡ whole (length (item (0x32 + last) (dimension_bytes to_le32 d))) (Xsect last d (length l - k) (drop k m))
  unfolding label_codes
  wide_section_item last d rest h g =
      wide_section_read_back 8 part_back (0x32 + last) rest last d (λ t. code_section (0x32 + last) t (omega arith) (omega arith)) (omega arith) g (omega arith)

-- LINE with 0x20: no label bytes
pub same_line_item : (flags : ℕ) (p : Point) (rest : List ℕ) → flags ≤ 7 → GoodPoint p
    → item_of 8 ((0x60 + flags) ∷ (point_bytes to_le32 p ++ rest)) ≡ whole (suc (length (point_bytes to_le32 p))) (Line flags p 0 [])
unfolding line_item labelled_item sized pick
same_line_item flags p rest h g =
    let z : 0x60 + flags - 0x60 ≡ flags = omega arith in
    let k : 12 ≤ length (point_bytes to_le32 p ++ rest) = simp (length-append, le32_width) (omega arith) in
    let n : suc (length (point_bytes to_le32 p)) ≡ 13 = simp (length-append, le32_width) in
    code_same_line (0x60 + flags) (point_bytes to_le32 p ++ rest) (omega arith) (omega arith)
    ∙ simp (z, le-ltb _ _ k, point_back p rest g, n)

-- ---- the parts of a leg's codes

not_both_normal : (a b : ℕ) → (b ≡ a → ⊥) → (eqb a 0 && eqb b 0) ≡ false
not_both_normal a b d = go (eqb a 0) (eqb b 0) refl refl
  where
    go : (x y : Bool) → eqb a 0 ≡ x → eqb b 0 ≡ y → (x && y) ≡ false
    go true true p q = absurd (d (eqb-true b 0 q ∙ sym (eqb-true a 0 p)))
    go true false p q = refl
    go false y p q = refl

style_next : (st : State) (style : ℕ) (rest : List ℕ) → style ≤ 5 → (eqb style 5 && not (eqb st.setting.style 5)) ≡ false → eqb st.setting.style style ≡ false
    → next 8 (style ∷ rest) st ≡ on 1 (styled style st)
unfolding next pick
style_next st style rest h u e =
    let d = eqb-false st.setting.style style e in
    let k : style ≡ 5 → ⊥ = λ q. (let u' : not (eqb st.setting.style 5) ≡ false = simp (eq-eqb style 5 q) at u in d (eqb-true st.setting.style 5 (not-false (eqb st.setting.style 5) u') ∙ sym q)) in
    simp (code_style style rest (omega arith), not_both_normal style st.setting.style d)

style_read : (st : State) (style : ℕ) (rest : List ℕ) → style ≤ 5 → (eqb style 5 && not (eqb st.setting.style 5)) ≡ false
    → Goes 8 (style_if st.setting.style style ++ rest) st [] (length (style_if st.setting.style style)) (styled style st)
unfolding style_if
style_read st style rest h u =
    written_if 8 (λ s. s.setting.style) styled (λ s. refl) st style _ (style ∷ []) rest (eqb-true st.setting.style style) (style_next st style rest h u)

v8_dates_read : DatesRead 8 v8_dates
unfolding item_of new_low_item new_date_item pick
v8_dates_read =
    record {
      is_none = λ t. simp (there 0x10 t);
      is_day = λ t. simp (there 0x11 t);
      is_span = λ t. simp (there 0x12 t);
      is_days = λ t. simp (there 0x13 t);
    }

v8_move : (t : List ℕ) → item_of 8 (0x0f ∷ t) ≡ move_item (0x0f ∷ t)
unfolding item_of new_low_item pick
v8_move t = simp (there 0x0f t)

v8_error : (t : List ℕ) → item_of 8 (0x1f ∷ t) ≡ error_item (0x1f ∷ t)
unfolding item_of new_low_item pick
v8_error t = simp (there 0x1f t)

-- ---- the records

module _ (st : State) (rest : List ℕ) (hl : length st.label ≤ label_limit) where
  abbrev Reads : List ℕ → Record → State → Type 0
  Reads bytes r st' = Goes 8 (bytes ++ rest) st (r ∷ []) (length bytes) st'

  station_read : (s : Station) (label : List ℕ) → GoodStation s label → Reads (station_codes st.label s label) (station s label) (named label st)
  unfolding station_codes next
  station_read s label g =
      let k = kept_bytes st.label label in
      let c = station_codes st.label s label in
      let e : next 8 (c ++ rest) st ≡ made (length c) (station s label) (named label st) =
      rw (station_item_lem st.label label k hl g.label_fits s.flags s.place rest g.place_fits, label_read st.label label k (kept_shares st.label label) g.label_fits) in
      goes_made c rest st (station s label) (named label st) e

  -- XSECT, where the date is the section's
  xsect_read : (s : Section) (label : List ℕ) → GoodSection s label → st.setting.date ≡ s.date → Reads (section_codes st.label s label) (section s label) (named label st)
  unfolding section_codes next
  xsect_read s label g hd =
      let d = s.size in
      let k = kept_bytes st.label label in
      let name = label_codes st.label label k in
      let e = label_read st.label label k (kept_shares st.label label) g.label_fits in
      let r = section s label in
      let a = (0x30 + s.last) ∷ (name ++ dimension_bytes to_le16 d) in
      let b = (0x32 + s.last) ∷ (name ++ dimension_bytes to_le32 d) in
      let ea : all_short d ≡ true → next 8 (a ++ rest) st ≡ made (length a) r (named label st) =
      λ q. rw (short_section_item st.label label k hl g.label_fits s.last d rest g.last_fits g.dimensions_fit q, e, hd) in
      let eb : next 8 (b ++ rest) st ≡ made (length b) r (named label st) =
      rw (wide_section_item st.label label k hl g.label_fits s.last d rest g.last_fits g.dimensions_fit, e, hd) in
      pick_case (λ (x : List ℕ). Reads x r (named label st)) (all_short d) a b (λ q. goes_made a rest st r (named label st) (ea q)) (λ q. goes_made b rest st r (named label st) eb)

  error_read : (t : Traverse) → GoodTraverse t → Reads (error_codes t) (error t) st
  unfolding error_codes
  error_read t g = goes_made (0x1f ∷ traverse_bytes to_le32 t) rest st (error t) st (error_next 8 st rest 0x1f v8_error t g)

  -- the leg of a LINE in this state
  abbrev leg_along : ℕ → Point → Point → Leg
  leg_along flags from to = record { flags = flags; style = st.setting.style; date = st.setting.date; from = from; to = to }

  -- LINE, where the position is the leg's "from"
  line_read : (flags : ℕ) (from to : Point) (label : List ℕ) → flags ≤ 7 → GoodPoint to → length label ≤ label_limit → st.setting.position ≡ Some from
      → Reads (line_codes st.label flags to label) (leg (leg_along flags from to) label) (moved to (named label st))
  unfolding line_codes next
  line_read flags from to label hf g hm hp =
      let l = st.label in
      let k = common l label in
      let r = leg (leg_along flags from to) label in
      let a = (0x60 + flags) ∷ point_bytes to_le32 to in
      let b = (0x40 + flags) ∷ (label_codes l label k ++ point_bytes to_le32 to) in
      let eb : next 8 (b ++ rest) st ≡ made (length b) r (moved to (named label st)) =
      rw (line_item_lem l label k hl hm flags to rest hf g, label_read l label k (common_shares l label) hm, hp) in
      let ea : same l label ≡ true → next 8 (a ++ rest) st ≡ made (length a) r (moved to (named label st)) =
      λ q. rw (same_line_item flags to rest hf g, label_same l hl, hp) (rw (same_true l label q)) in
      pick_case (λ (x : List ℕ). Reads x r (moved to (named label st))) (same l label) a b (λ q. goes_made a rest st r (moved to (named label st)) (ea q)) (λ q. goes_made b rest st r (moved to (named label st)) eb)

section_read : (st : State) (s : Section) (label : List ℕ) → length st.label ≤ label_limit → GoodSection s label → (rest : List ℕ)
    → Goes 8 (codes st (section s label) ++ rest) st (section s label ∷ []) (length (codes st (section s label))) (after st (section s label))
unfolding date_if
section_read st s label hl w rest =
    let D = date_if v8_dates st.setting.date s.date in
    let X = section_codes st.label s label in
    goes_as (sym (append_assoc D X rest)) (sym (length-append D X))
    (goes_append D (X ++ rest) (date_if_read v8_dates_read st (X ++ rest) s.date w.date_fits) (xsect_read (dated_by s.date st) rest hl s label w refl))

leg_read : (st : State) (g : Leg) (label : List ℕ) → length st.label ≤ label_limit → GoodLeg g label → unsayable st.setting.style (leg g label) ≡ false → (rest : List ℕ)
    → Goes 8 (codes st (leg g label) ++ rest) st (leg g label ∷ []) (length (codes st (leg g label))) (after st (leg g label))
unfolding date_if move_if line_codes
leg_read st g label hl w u rest =
    let S = style_if st.setting.style g.style in
    let D = date_if v8_dates st.setting.date g.date in
    let M = move_if st.setting.position g.from in
    let L = line_codes st.label g.flags g.to label in
    let styled-st = styled g.style st in
    let dated-st = dated_by g.date styled-st in
    let moved-st = moved g.from dated-st in
    let e : (S ++ (D ++ (M ++ L))) ++ rest ≡ S ++ (D ++ (M ++ (L ++ rest))) = simp append_assoc in
    let n : length S + (length D + (length M + length L)) ≡ length (S ++ (D ++ (M ++ L))) = simp length-append in
    goes_as (sym e) n
    (goes_append S (D ++ (M ++ (L ++ rest))) (style_read st g.style (D ++ (M ++ (L ++ rest))) w.style_fits u)
    (goes_append D (M ++ (L ++ rest)) (date_if_read v8_dates_read styled-st (M ++ (L ++ rest)) g.date w.date_fits)
    (goes_append M (L ++ rest) (move_if_read 8 dated-st (L ++ rest) v8_move g.from w.from_fits)
    (line_read moved-st rest hl g.flags g.from g.to label w.flags_fit w.to_fits w.label_fits refl))))

-- ---- codes-go: reading the codes of a record from any state makes exactly that record, leaves the state that writing leaves, and goes on at
-- what follows

pub codes_go : (st : State) (r : Record) → length st.label ≤ label_limit → WellFormed r → unsayable st.setting.style r ≡ false → (rest : List ℕ)
    → Goes 8 (codes st r ++ rest) st (r ∷ []) (length (codes st r)) (after st r)
codes_go st (leg g label) hl w u rest = leg_read st g label hl w u rest
codes_go st (station s label) hl w u rest = station_read st rest hl s label w
codes_go st (section s label) hl w u rest = section_read st s label hl w rest
codes_go st (error t) hl g u rest = error_read st rest hl t g

-- ---- the closing codes end the file

end_read : (st : State) (at : ℕ) → st.setting.style ≡ 0 → run 8 at (0 ∷ []) st ≡ stop Good
unfolding next item_of new_low_item pick
end_read st at e = run_done 8 at (0 ∷ []) st (style_end st 1 0 refl e) (omega arith)

-- the first 00 says normal, the second ends
normal_end_read : (st : State) (at : ℕ) → (st.setting.style ≡ 0 → ⊥) → run 8 at (0 ∷ 0 ∷ []) st ≡ stop Good
unfolding next item_of new_low_item pick
normal_end_read st at q = run_on 8 at (0 ∷ 0 ∷ []) st (style_first st 1 0 refl q) ∙ end_read (styled 0 st) (at + 1) refl

pub closing_read : (st : State) (at : ℕ) → run 8 at (closing st.setting.style) st ≡ stop Good
unfolding closing
closing_read st at =
    pick_case (λ (x : List ℕ). run 8 at x st ≡ stop Good) _ _ _ (λ q. end_read st at (eqb-true st.setting.style 0 q)) (λ q. normal_end_read st at (eqb-false st.setting.style 0 q))

pub after_short : (st : State) (r : Record) → length st.label ≤ label_limit → WellFormed r → length (after st r).label ≤ label_limit
after_short st (leg g label) h w = w.label_fits
after_short st (station s label) h w = w.label_fits
after_short st (section s label) h w = w.label_fits
after_short st (error t) h g = h
