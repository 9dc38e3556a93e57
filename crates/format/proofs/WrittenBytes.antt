-- What is written is bytes: each number of a good sheet's file is below 256. Assumes nothing.
use Prim.Native.Nat.{ℕ, zero, suc, ◌+◌, ◌-◌, ◌*◌, ◌%◌, ◌≤◌, ◌<◌}
use mathlib.Core.Path.{◌≡◌, refl}
use mathlib.Core.List.{List, [], ◌∷◌, ◌++◌}
use mathlib.Core.Bool.{Bool, true, ◌&&◌, ◌||◌}
use native.Mathlib.Omega.{arith}
use lib.ListN.{length}
use lib.Dec.{ltb, leb}
use borrow.Author.Tests.{ltb-true, leb-true}
use Rattle.format.specs.Bytes.{pick, to_le16, to_le32, Bytes}
use Rattle.format.specs.Header.{Header, magic}
use Rattle.format.specs.State.{State, start, Record, leg, station, section, error}
use Rattle.format.specs.Sheet.{point_bytes, dimension_bytes, traverse_bytes}
use Rattle.format.specs.WellFormed.{GoodDated, GoodHeader, WellFormed, AllWellFormed}
use Rattle.format.specs.Writing.{Writer, v8, v7, codes_all, encode_all, file_of}
use Rattle.format.specs.V7Codes.{sixteens, trim_codes, shorten_codes, old_length_codes, added_codes, labelled_codes, v7_dates, v7_section_codes, v7_codes}
use Rattle.format.specs.V7Codes.{v7_closing, v7_header_codes}
use Rattle.format.specs.Codes.{length_codes, part_codes, label_codes, common, dated_codes, v8_dates, style_if, date_if, move_if, line_codes}
use Rattle.format.specs.Codes.{station_codes, section_codes, error_codes, codes, closing, header_codes}
use Rattle.format.specs.declared.DateCodes.{DateCodes}
use Rattle.format.specs.declared.Point.{Point}
use Rattle.format.specs.declared.Dimensions.{Dimensions}
use Rattle.format.specs.declared.Traverse.{Traverse}
use Rattle.format.specs.declared.Dated.{Dated}
use Rattle.format.specs.declared.Dated.TheVariants.{Undated, Day, Range}
use Rattle.format.proofs.Basics.{pick_case, both}
use Rattle.format.proofs.SheetLaws.{bytes_drop}

-- ---- lists of bytes; the record lets the lists themselves be found

pub record All (s : List ℕ) : Type 0 where
  pub below : Bytes s

pub bytes_nil : All []
bytes_nil = record { below = λ i. omega arith }

cons_below : (b : ℕ) (s : List ℕ) → b < 256 → Bytes s → Bytes (b ∷ s)
cons_below b s h f zero = h
cons_below b s h f (suc i) = f i

pub bytes_cons : (b : ℕ) (s : List ℕ) → b < 256 → All s → All (b ∷ s)
bytes_cons b s h f = record { below = cons_below b s h f.below }

append_below : (s t : List ℕ) → Bytes s → Bytes t → Bytes (s ++ t)
append_below [] t f g i = g i
append_below (b ∷ s) t f g zero = f 0
append_below (b ∷ s) t f g (suc i) = append_below s t (λ j. f (suc j)) g i

pub bytes_append : (s t : List ℕ) → All s → All t → All (s ++ t)
bytes_append s t f g = record { below = append_below s t f.below g.below }

le16_bytes : (n : ℕ) → All (to_le16 n)
unfolding to_le16
le16_bytes n = bytes_cons _ _ (omega arith) (bytes_cons _ _ (omega arith) bytes_nil)

le32_bytes : (n : ℕ) → All (to_le32 n)
unfolding to_le32
le32_bytes n = bytes_cons _ _ (omega arith) (bytes_cons _ _ (omega arith) (bytes_cons _ _ (omega arith) (bytes_cons _ _ (omega arith) bytes_nil)))

module _ (to : ℕ → List ℕ) (f : (n : ℕ) → All (to n)) where
  point_bytes_lem : (p : Point) → All (point_bytes to p)
  point_bytes_lem p = bytes_append _ _ (f p.x) (bytes_append _ _ (f p.y) (f p.z))

  dimensions_bytes : (d : Dimensions) → All (dimension_bytes to d)
  dimensions_bytes d = bytes_append _ _ (f d.left) (bytes_append _ _ (f d.right) (bytes_append _ _ (f d.up) (f d.down)))

  traverse_bytes_lem : (t : Traverse) → All (traverse_bytes to t)
  traverse_bytes_lem t = bytes_append _ _ (f t.legs) (bytes_append _ _ (f t.total) (bytes_append _ _ (f t.e) (bytes_append _ _ (f t.h) (f t.v))))

-- ---- label parts and dates

length_bytes : (n : ℕ) → All (length_codes n)
unfolding length_codes
length_bytes n =
    pick_case All _ _ _ (λ e. (let h : n < 255 = ltb-true _ _ e in bytes_cons n [] (omega arith) bytes_nil))
    (λ e. bytes_cons 0xff _ (omega arith) (le32_bytes n))

part_bytes : (d a : ℕ) → All (part_codes d a)
unfolding part_codes
part_bytes d a =
    pick_case All _ _ _
    (λ e.
    let p = both (leb d 15) (leb a 15) (both (leb d 15 && leb a 15) (ltb 0 d || ltb 0 a) e).0 in
    let h : d ≤ 15 = leb-true _ _ p.0 in
    let k : a ≤ 15 = leb-true _ _ p.1 in
    bytes_cons (16 * d + a) [] (omega arith) bytes_nil)
    (λ e. bytes_cons 0 _ (omega arith) (bytes_append _ _ (length_bytes d) (length_bytes a)))

label_bytes : (l m : List ℕ) (k : ℕ) → All m → All (label_codes l m k)
unfolding label_codes
label_bytes l m k f = bytes_append _ _ (part_bytes (length l - k) (length m - k)) (record { below = bytes_drop m f.below k })

-- the codes of a version's dates are bytes
record DateBytes (c : DateCodes) : Type 0 where
  pub none_below : c.none < 256
  pub day_below : c.day < 256
  pub span_below : c.span < 256
  pub days_below : c.days < 256

date_bytes_lem : {c : DateCodes} → DateBytes c → (date : Dated) → GoodDated date → All (dated_codes c date)
date_bytes_lem {c} B Undated g = bytes_cons c.none [] B.none_below bytes_nil
date_bytes_lem {c} B (Day d) g = bytes_cons c.day _ B.day_below (le16_bytes d)
date_bytes_lem {c} B (Range d e) g =
    pick_case All _ _ _
    (λ q. (let h : e - d ≤ 255 = leb-true _ _ q in
    bytes_cons c.span _ B.span_below (bytes_append _ _ (le16_bytes d) (bytes_cons (e - d) [] (omega arith) bytes_nil))))
    (λ q. bytes_cons c.days _ B.days_below (bytes_append _ _ (le16_bytes d) (le16_bytes e)))

v8_dates_lem : DateBytes v8_dates
v8_dates_lem = record { none_below = omega arith; day_below = omega arith; span_below = omega arith; days_below = omega arith }

v7_dates_lem : DateBytes v7_dates
v7_dates_lem = record { none_below = omega arith; day_below = omega arith; span_below = omega arith; days_below = omega arith }

-- ---- records

abbrev pub LabelBytes : Record → Type 0
LabelBytes (leg g label) = All label
LabelBytes (station s label) = All label
LabelBytes (section s label) = All label
LabelBytes (error t) = Unit

abbrev pub AllLabelBytes : List Record → Type 0
AllLabelBytes [] = Unit
AllLabelBytes (r ∷ rs) = LabelBytes r × AllLabelBytes rs

if_bytes : (test : Bool) (code : List ℕ) → All code → All (pick test [] code)
if_bytes test code f = pick_case All _ _ _ (λ e. bytes_nil) (λ e. f)

pub codes_bytes : (st : State) (r : Record) → WellFormed r → LabelBytes r → All (codes st r)
unfolding style_if date_if move_if line_codes station_codes section_codes error_codes
codes_bytes st (leg g label) w f =
    let h = w.style_fits in
    let k = w.flags_fit in
    let p = point_bytes_lem to_le32 le32_bytes in
    bytes_append _ _ (if_bytes _ _ (bytes_cons g.style [] (omega arith) bytes_nil))
    (bytes_append _ _ (if_bytes _ _ (date_bytes_lem v8_dates_lem g.date w.date_fits))
    (bytes_append _ _ (if_bytes _ _ (bytes_cons 0x0f _ (omega arith) (p g.from)))
    (pick_case All _ _ _ (λ e. bytes_cons (0x60 + g.flags) _ (omega arith) (p g.to))
    (λ e. bytes_cons (0x40 + g.flags) _ (omega arith) (bytes_append _ _ (label_bytes st.label label _ f) (p g.to))))))
codes_bytes st (station s label) w f =
    let k = w.flags_fit in
    bytes_cons (0x80 + s.flags) _ (omega arith) (bytes_append _ _ (label_bytes st.label label _ f) (point_bytes_lem to_le32 le32_bytes s.place))
codes_bytes st (section s label) w f =
    let k = w.last_fits in
    bytes_append _ _ (if_bytes _ _ (date_bytes_lem v8_dates_lem s.date w.date_fits))
    (pick_case All _ _ _
    (λ e. bytes_cons (0x30 + s.last) _ (omega arith) (bytes_append _ _ (label_bytes st.label label _ f) (dimensions_bytes to_le16 le16_bytes s.size)))
    (λ e. bytes_cons (0x32 + s.last) _ (omega arith) (bytes_append _ _ (label_bytes st.label label _ f) (dimensions_bytes to_le32 le32_bytes s.size))))
codes_bytes st (error t) g f = bytes_cons 0x1f _ (omega arith) (traverse_bytes_lem to_le32 le32_bytes t)

closing_bytes : (style : ℕ) → All (closing style)
unfolding closing
closing_bytes style = pick_case All _ _ _ (λ e. bytes_cons 0 [] (omega arith) bytes_nil)
    (λ e. bytes_cons 0 _ (omega arith) (bytes_cons 0 [] (omega arith) bytes_nil))

-- whether every number is below 256
all_bytes : List ℕ → Bool
all_bytes [] = true
all_bytes (b ∷ s) = ltb b 256 && all_bytes s

computed_bytes : (s : List ℕ) → all_bytes s ≡ true → All s
unfolding all_bytes
computed_bytes [] e = bytes_nil
computed_bytes (b ∷ s) e = let p = both (ltb b 256) (all_bytes s) e in bytes_cons b s (ltb-true _ _ p.0) (computed_bytes s p.1)

magic_bytes : All magic
unfolding magic all_bytes
magic_bytes = computed_bytes magic refl

-- ---- v7

sixteens_bytes : (n : ℕ) → All (sixteens n)
unfolding sixteens
sixteens_bytes zero = bytes_nil
sixteens_bytes (suc n) = bytes_cons 0x1f _ (omega arith) (sixteens_bytes n)

shorten_bytes : (n k : ℕ) → All (shorten_codes n k)
unfolding shorten_codes trim_codes
shorten_bytes n k =
    pick_case All _ _ _ (λ e. if_bytes _ _ (bytes_cons 0x00 [] (omega arith) bytes_nil))
    (λ e. bytes_append _ _ (sixteens_bytes _) (if_bytes _ _ (bytes_cons (0x0f + (n - k) % 16) [] (omega arith) bytes_nil)))

old_length_bytes : (n : ℕ) → All (old_length_codes n)
unfolding old_length_codes
old_length_bytes n =
    pick_case All _ _ _ (λ e. (let h : n < 0xfe = ltb-true _ _ e in bytes_cons n [] (omega arith) bytes_nil))
    (λ e. pick_case All _ _ _ (λ q. bytes_cons 0xfe _ (omega arith) (le16_bytes (n - 254))) (λ q. bytes_cons 0xff _ (omega arith) (le32_bytes n)))

labelled_bytes : (l m : List ℕ) (code : ℕ) (fields : List ℕ) → code < 256 → All m → All fields → All (labelled_codes l m code fields)
unfolding labelled_codes added_codes
labelled_bytes l m code fields h f g =
    bytes_append _ _ (shorten_bytes _ _)
    (bytes_cons code _ h (bytes_append _ _ (bytes_append _ _ (old_length_bytes _) (record { below = bytes_drop m f.below (common l m) })) g))

pub v7_codes_bytes : (st : State) (r : Record) → WellFormed r → LabelBytes r → All (v7_codes st r)
unfolding date_if move_if v7_section_codes
v7_codes_bytes st (leg g label) w f =
    let k = w.flags_fit in
    let p = point_bytes_lem to_le32 le32_bytes in
    bytes_append _ _ (if_bytes _ _ (date_bytes_lem v7_dates_lem g.date w.date_fits))
    (bytes_append _ _ (if_bytes _ _ (bytes_cons 0x0f _ (omega arith) (p g.from))) (labelled_bytes _ label (0x80 + g.flags) _ (omega arith) f (p g.to)))
v7_codes_bytes st (station s label) w f =
    let k = w.flags_fit in
    labelled_bytes _ label (0x40 + s.flags) _ (omega arith) f (point_bytes_lem to_le32 le32_bytes s.place)
v7_codes_bytes st (section s label) w f =
    let k = w.last_fits in
    bytes_append _ _ (if_bytes _ _ (date_bytes_lem v7_dates_lem s.date w.date_fits))
    (pick_case All _ _ _ (λ e. labelled_bytes _ label (0x30 + s.last) _ (omega arith) f (dimensions_bytes to_le16 le16_bytes s.size))
    (λ e. labelled_bytes _ label (0x32 + s.last) _ (omega arith) f (dimensions_bytes to_le32 le32_bytes s.size)))
v7_codes_bytes st (error t) w f = bytes_cons 0x22 _ (omega arith) (traverse_bytes_lem to_le32 le32_bytes t)

-- ---- files

-- what a writer makes of a good header, of a record and of the end is bytes
record WritesBytes (w : Writer) : Type 0 where
  pub head_bytes : (h : Header) → GoodHeader h → All h.title → All h.time → All (w.head h)
  pub record_bytes : (st : State) (r : Record) → WellFormed r → LabelBytes r → All (w.codes st r)
  pub end_bytes : (st : State) → All (w.closing st)

v8_bytes : WritesBytes v8
unfolding header_codes
v8_bytes =
    record {
      head_bytes = λ h g ft fm.
          (let x = g.extended_fits in
          bytes_append magic _ magic_bytes
          (bytes_cons 118 _ (omega arith) (bytes_cons 56 _ (omega arith) (bytes_cons 10 _ (omega arith)
          (bytes_append _ _ ft (bytes_cons 10 _ (omega arith)
          (bytes_append _ _ fm (bytes_cons 10 _ (omega arith) (bytes_cons (h.extended * 128) [] (omega arith) bytes_nil)))))))));
      record_bytes = codes_bytes;
      end_bytes = λ st. closing_bytes st.setting.style;
    }

v7_bytes : WritesBytes v7
unfolding v7_header_codes v7_closing
v7_bytes =
    record {
      head_bytes = λ h g ft fm.
          bytes_append magic _ magic_bytes
          (bytes_cons 118 _ (omega arith) (bytes_cons 55 _ (omega arith) (bytes_cons 10 _ (omega arith)
          (bytes_append _ _ ft (bytes_cons 10 _ (omega arith) (bytes_append _ _ fm (bytes_cons 10 [] (omega arith) bytes_nil)))))));
      record_bytes = v7_codes_bytes;
      end_bytes = λ st. pick_case All _ _ _ (λ e. bytes_cons 0x00 [] (omega arith) bytes_nil)
          (λ e. bytes_cons 0x00 _ (omega arith) (bytes_cons 0x00 [] (omega arith) bytes_nil));
    }

module _ {w : Writer} (B : WritesBytes w) where
  all_bytes_lem : (rs : List Record) (st : State) → AllWellFormed rs → AllLabelBytes rs → All (codes_all w st rs)
  unfolding codes_all
  all_bytes_lem [] st g f = bytes_nil
  all_bytes_lem (r ∷ rs) st g f = bytes_append _ _ (B.record_bytes st r g.0 f.0) (all_bytes_lem rs (w.after st r) g.1 f.1)

  -- a good header and records whose texts are bytes give a file of bytes
  file_bytes : (h : Header) (rs : List Record) → GoodHeader h → All h.title → All h.time → AllWellFormed rs → AllLabelBytes rs → All (file_of w h rs)
  unfolding file_of encode_all
  file_bytes h rs g ft fm r f =
      bytes_append _ _ (B.head_bytes h g ft fm) (bytes_append _ _ (all_bytes_lem rs start r f) (B.end_bytes _))

pub v8_file_bytes : (h : Header) (rs : List Record) → GoodHeader h → All h.title → All h.time → AllWellFormed rs → AllLabelBytes rs → All (file_of v8 h rs)
v8_file_bytes = file_bytes v8_bytes

pub v7_file_bytes : (h : Header) (rs : List Record) → GoodHeader h → All h.title → All h.time → AllWellFormed rs → AllLabelBytes rs → All (file_of v7 h rs)
v7_file_bytes = file_bytes v7_bytes
