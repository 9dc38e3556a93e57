-- Sentences of document 01 that no definition renders by itself, as laws under its own words. Assumes nothing.
use Rattle.format.specs.Refusals.{Good}
use Prim.Native.Nat.{ℕ, ◌+◌, ◌-◌, ◌≤◌, ◌<◌}
use native.Mathlib.Nat.{add-zero}
use native.Mathlib.Omega.{arith}
use mathlib.Core.Path.{◌≡◌, refl, sym, ap, ap₂, ◌∙◌}
use mathlib.Core.List.{List, [], ◌∷◌, ◌++◌, append_assoc, append-nil}
use mathlib.Core.Bool.{true}
use lib.ListN.{length, take, drop, take-append-drop}
use lib.Seq.{take_at, drop_at, drop-length, take-length}
use lib.Dec.{ltb}
use borrow.Author.Tests.{lt-ltb, le-ltb}
use Rattle.format.specs.Bytes.{pick, le16, le32, to_le16, to_le32, widened, Bytes}
use Rattle.format.specs.Header.{Header}
use Rattle.format.specs.Label.{Labelled, too_short, too_long, labelled, label_step}
use Rattle.format.specs.declared.Cut.TheVariants.{Back}
use Rattle.format.specs.Items.{dimensions_of, Style, NoDate, Date, Error, Xsect, Label, Line}
use Rattle.format.specs.State.{State, start, Record, leg, station, section, error, named, Next, bad, end, on, made, on_label, apply}
use Rattle.format.specs.Sheet.{sheet_version, dimension_bytes, layout_all, sheet_of, records_of}
use Rattle.format.specs.WellFormed.{GoodDimensions}
use Rattle.format.specs.Codes.{all_short, header_codes}
use Rattle.format.specs.Writing.{v8, codes_all, after_all, encode_all, file_of}
use Rattle.format.specs.Editing.{edited, codes_place}
use Rattle.format.specs.declared.Point.{Point}
use Rattle.format.specs.declared.Dimensions.{Dimensions}
use Rattle.format.specs.declared.Traverse.{Traverse}
use Rattle.format.specs.declared.Dated.{Dated}
use Rattle.format.proofs.Basics.{pick_case}
use Rattle.format.proofs.ApplyLaws.{label_case, leg_case}
use Rattle.format.proofs.Rows.{wide_dimensions_back, short_dimensions_back}
use Rattle.format.proofs.SheetLaws.{records_layout}
use Rattle.format.proofs.WritingLaws.{encode_append}
use Rattle.format.proofs.EditingLaws.{found, from_record, before_record}

-- ---- "A dimension of -1 is omitted; other negatives are kept"

-- an i16 of a section is read as the same number in an i32: itself below 32768, else as far below zero
pub record SameNumber (n : ℕ) : Type 0 where
  pub positive : n < 32768 → widened n ≡ n
  pub negative : 32768 ≤ n → 4294967296 - widened n ≡ 65536 - n
  -- so -1, and no other, is read as -1
  pub omitted : n ≡ 0xffff → widened n ≡ 0xffffffff
  pub no_other : widened n ≡ 0xffffffff → n ≡ 0xffff

pub i16_number : (n : ℕ) → n < 65536 → SameNumber n
unfolding widened pick
i16_number n h =
    record {
      positive = λ p. rw (lt-ltb n 32768 p);
      negative = λ p. rw (le-ltb n 32768 p) (omega arith);
      omitted = λ e. rw e;
      no_other = pick_case (λ (m : ℕ). m ≡ 0xffffffff → n ≡ 0xffff) (ltb n 32768) n (n + 4294901760) (λ e q. absurd (omega arith)) (λ e q. omega arith);
    }

-- and dimensions that fit an i16 are read as the same from either form
pub forms_agree : (d : Dimensions) (rest : List ℕ) → GoodDimensions d → all_short d ≡ true
    → dimensions_of 2 (λ s. widened (le16 s)) (dimension_bytes to_le16 d ++ rest) ≡ dimensions_of 4 le32 (dimension_bytes to_le32 d ++ rest)
forms_agree d rest g e = short_dimensions_back d rest g e ∙ sym (wide_dimensions_back d rest g)

-- the section made has the dimensions that the item gives, whatever they are
abbrev pub HasDimensions : Dimensions → Next → Type 0
HasDimensions dims (bad k) = Unit
HasDimensions dims end = ⊥
HasDimensions dims (on n st) = ⊥
HasDimensions dims (made n (leg g l) st) = ⊥
HasDimensions dims (made n (station s l) st) = ⊥
HasDimensions dims (made n (section s l) st) = s.size ≡ dims
HasDimensions dims (made n (error t) st) = ⊥

pub dimensions_kept : (st : State) (n last : ℕ) (dims : Dimensions) (d : ℕ) (added : List ℕ) → HasDimensions dims (apply st n (Xsect last dims d added))
dimensions_kept st n last dims d added = label_case (HasDimensions dims) st.label (Back d) added _ tt tt (λ l h. refl)

-- ---- "Dates and styles touch only later legs", and "Survex puts the date in force on sections as well" (#106)

-- a style or date makes no record, and leaves label and position
abbrev pub OnlyTouches : State → Next → Type 0
OnlyTouches st (bad k) = Unit
OnlyTouches st end = Unit
OnlyTouches st (on n st') = (st'.label ≡ st.label) × (st'.setting.position ≡ st.setting.position)
OnlyTouches st (made n r st') = ⊥

pub style_touches : (st : State) (n k : ℕ) → OnlyTouches st (apply st n (Style k))
style_touches st n k = pick_case (OnlyTouches st) _ _ _ (λ e. tt) (λ e. (refl, refl))

pub no_date_touches : (st : State) (n : ℕ) → OnlyTouches st (apply st n NoDate)
no_date_touches st n = (refl, refl)

pub date_touches : (st : State) (n first last : ℕ) → OnlyTouches st (apply st n (Date first last))
date_touches st n first last = pick_case (OnlyTouches st) _ _ _ (λ e. tt) (λ e. (refl, refl))

-- a state, and what an item comes to, with another style and date
abbrev pub restyled : ℕ → Dated → State → State
restyled style date st = record { label = st.label; setting = record { style = style; date = date; position = st.setting.position } }

abbrev pub same_record : ℕ → Dated → Next → Next
same_record style date (bad k) = bad k
same_record style date end = end
same_record style date (on n st) = on n (restyled style date st)
same_record style date (made n r st) = made n r (restyled style date st)

same_labelled : (style : ℕ) (date : Dated) (x : Labelled) (go : List ℕ → Next)
    → on_label x (λ l. same_record style date (go l)) ≡ same_record style date (on_label x go)
same_labelled style date too_short go = refl
same_labelled style date too_long go = refl
same_labelled style date (labelled l) go = refl

-- so a station and an error are the same records whatever style and date are
module _ (style : ℕ) (date : Dated) (st : State) (n : ℕ) where
  pub error_untouched : (t : Traverse) → apply (restyled style date st) n (Error t) ≡ same_record style date (apply st n (Error t))
  error_untouched t = refl

  pub station_untouched : (flags : ℕ) (p : Point) (d : ℕ) (added : List ℕ)
      → apply (restyled style date st) n (Label flags p d added) ≡ same_record style date (apply st n (Label flags p d added))
  station_untouched flags p d added = same_labelled style date (label_step st.label (Back d) added)
      (λ l. made n (station (record { flags = flags; place = p }) l) (named l st))

-- a section is the same record whatever style is
pub section_untouched : (style : ℕ) (st : State) (n last : ℕ) (dims : Dimensions) (d : ℕ) (added : List ℕ)
    → apply (restyled style st.setting.date st) n (Xsect last dims d added) ≡ same_record style st.setting.date (apply st n (Xsect last dims d added))
section_untouched style st n last dims d added =
    same_labelled style st.setting.date (label_step st.label (Back d) added)
    (λ l. made n (section (record { last = last; date = st.setting.date; size = dims }) l) (named l st))

-- and has the date that the XSECT finds
abbrev pub SectionFinds : State → Next → Type 0
SectionFinds st (bad k) = Unit
SectionFinds st end = ⊥
SectionFinds st (on n st') = ⊥
SectionFinds st (made n (leg g l) st') = ⊥
SectionFinds st (made n (station s l) st') = ⊥
SectionFinds st (made n (section s l) st') = s.date ≡ st.setting.date
SectionFinds st (made n (error t) st') = ⊥

pub section_finds : (st : State) (n last : ℕ) (dims : Dimensions) (d : ℕ) (added : List ℕ) → SectionFinds st (apply st n (Xsect last dims d added))
section_finds st n last dims d added = label_case (SectionFinds st) st.label (Back d) added _ tt tt (λ l h. refl)

-- a leg has the style and date that the LINE finds
abbrev pub LegFinds : State → Next → Type 0
LegFinds st (bad k) = Unit
LegFinds st end = ⊥
LegFinds st (on n st') = ⊥
LegFinds st (made n (leg g l) st') = (g.style ≡ st.setting.style) × (g.date ≡ st.setting.date)
LegFinds st (made n (station s l) st') = ⊥
LegFinds st (made n (section s l) st') = ⊥
LegFinds st (made n (error t) st') = ⊥

pub leg_finds : (st : State) (n flags : ℕ) (p : Point) (d : ℕ) (added : List ℕ) → LegFinds st (apply st n (Line flags p d added))
leg_finds st n flags p d added =
    label_case (LegFinds st) st.label (Back d) added _ tt tt λ l h. leg_case (LegFinds st) st.setting.position n st flags p l tt (λ from. (refl, refl))

-- ---- "An empty run stands before the codes of the record it names, or before the closing codes"

pub empty_run : (rs : List Record) (first : ℕ) (new : List Record) → edited rs first 0 new ≡ take first rs ++ (new ++ drop first rs)
unfolding edited
empty_run rs first new = rw (add-zero first)

pub empty_run_last : (rs new : List Record) → edited rs (length rs) 0 new ≡ rs ++ new
unfolding edited
empty_run_last rs new = rw (add-zero (length rs), take-length rs, drop-length rs, append-nil new)

-- the old bytes up to the codes of the record, the codes of the replacement, and then the record's
pub empty_run_codes : (h : Header) (rs : List Record) (first : ℕ) (new : List Record)
    → file_of v8 h (edited rs first 0 new) ≡ take (codes_place h rs first) (file_of v8 h rs)
    ++ (codes_all v8 (found h rs first) new ++ encode_all v8 (after_all v8 (found h rs first) new) (drop first rs))
unfolding file_of
empty_run_codes h rs first new =
    let st = found h rs first in
    let more = encode_all v8 st (new ++ drop first rs) in
    ap (λ (x : List Record). header_codes h ++ encode_all v8 start x) (empty_run rs first new)
    ∙ ap (λ (x : List ℕ). header_codes h ++ x) (encode_append v8 (take first rs) (new ++ drop first rs) start)
    ∙ sym (append_assoc (header_codes h) (codes_all v8 start (take first rs)) more)
    ∙ ap₂ (λ (x y : List ℕ). x ++ y) (sym (before_record h rs first)) (encode_append v8 new (drop first rs) st)

-- past the last record stand the closing codes
pub closing_place : (h : Header) (rs : List Record) → drop (codes_place h rs (length rs)) (file_of v8 h rs) ≡ v8.closing (after_all v8 start rs)
unfolding encode_all codes_all after_all
closing_place h rs = from_record h rs (length rs) ∙ rw (take-length rs, drop-length rs)

-- ---- "The edited sheet is the old file's sheet with the replacement, in order, where the run stood"

layout_append : (xs ys : List Record) → layout_all sheet_version (xs ++ ys) ≡ layout_all sheet_version xs ++ layout_all sheet_version ys
unfolding layout_all
layout_append [] ys = refl
layout_append (x ∷ xs) ys = rw (layout_append xs ys, append_assoc)

-- the place of the first byte of the record with the number j; past the last record, the sheet's length
abbrev pub sheet_place : Header → List Record → ℕ → ℕ
sheet_place h rs j = length (sheet_of sheet_version h (take j rs))

pub sheet_append : (h : Header) (xs ys : List Record) → sheet_of sheet_version h (xs ++ ys) ≡ sheet_of sheet_version h xs ++ layout_all sheet_version ys
unfolding sheet_of
sheet_append h xs ys = rw (layout_append xs ys, append_assoc)

module _ (h : Header) (rs : List Record) (j : ℕ) where
  sheet_parts : sheet_of sheet_version h rs ≡ sheet_of sheet_version h (take j rs) ++ layout_all sheet_version (drop j rs)
  sheet_parts = ap (sheet_of sheet_version h) (sym (take-append-drop j rs)) ∙ sheet_append h (take j rs) (drop j rs)

  pub sheet_before : take (sheet_place h rs j) (sheet_of sheet_version h rs) ≡ sheet_of sheet_version h (take j rs)
  sheet_before = ap (take (sheet_place h rs j)) sheet_parts ∙ take_at (sheet_of sheet_version h (take j rs)) (layout_all sheet_version (drop j rs))
      (sheet_place h rs j) refl

  pub sheet_from_lem : drop (sheet_place h rs j) (sheet_of sheet_version h rs) ≡ layout_all sheet_version (drop j rs)
  sheet_from_lem = ap (drop (sheet_place h rs j)) sheet_parts ∙ drop_at (sheet_of sheet_version h (take j rs)) (layout_all sheet_version (drop j rs))
      (sheet_place h rs j) refl

-- the old sheet's bytes before the run, those of the replacement, and the old sheet's after the run
pub edited_sheet : (h : Header) (rs : List Record) (first count : ℕ) (ns : List Record)
    → sheet_of sheet_version h (edited rs first count ns)
    ≡ take (sheet_place h rs first) (sheet_of sheet_version h rs) ++
    (layout_all sheet_version ns ++ drop (sheet_place h rs (first + count)) (sheet_of sheet_version h rs))
unfolding edited
edited_sheet h rs first count ns =
    rw (sheet_before h rs first, sheet_from_lem h rs (first + count))
    (sheet_append h (take first rs) (ns ++ drop (first + count) rs)
    ∙ ap (λ (x : List ℕ). sheet_of sheet_version h (take first rs) ++ x) (layout_append ns (drop (first + count) rs)))

-- of which the replacement's are the very bytes given
pub edited_bytes : (h : Header) (rs : List Record) (first count : ℕ) (new : List ℕ) → Bytes new → (ns : List Record)
    → records_of sheet_version new ≡ record { records = ns; verdict = Good }
    → sheet_of sheet_version h (edited rs first count ns)
    ≡ take (sheet_place h rs first) (sheet_of sheet_version h rs) ++ (new ++ drop (sheet_place h rs (first + count)) (sheet_of sheet_version h rs))
edited_bytes h rs first count new b ns e = edited_sheet h rs first count ns ∙ rw (records_layout sheet_version new b ns e).0
