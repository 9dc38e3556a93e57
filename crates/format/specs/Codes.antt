-- The codes of v8, document 01, "Writing v8": those of each record, of the header and of the end, and refusal 13. Assumes nothing.
use Rattle.std.specs.Prelude.{ℕ, suc, ◌+◌, ◌-◌, ◌*◌, List, [], ◌∷◌, ◌++◌, Bool, true, false, ◌&&◌, ◌||◌, not, length, drop, eqb, ltb, leb, Option, None, Some}
use Rattle.format.specs.Bytes.{pick, same, to_le16, to_le32}
use Rattle.format.specs.Header.{Header, magic, title_limit, time_limit}
use Rattle.format.specs.Label.{label_limit}
use Rattle.format.specs.State.{not_said, State, Record, leg, station, section, error}
use Rattle.format.specs.Sheet.{point_bytes, dimension_bytes, traverse_bytes}
use Rattle.format.specs.declared.Point.{Point}
use Rattle.format.specs.declared.Dimensions.{Dimensions}
use Rattle.format.specs.declared.Traverse.{Traverse}
use Rattle.format.specs.declared.Dated.{Dated}
use Rattle.format.specs.declared.DateCodes.{DateCodes}
use Rattle.format.specs.declared.Dated.TheVariants.{Undated, Day, Range}
use Rattle.format.specs.declared.Setting.{Setting}
use Rattle.format.specs.declared.Station.{Station}
use Rattle.format.specs.declared.Section.{Section}

-- ---- labels

-- "the longest common start" of two labels
unfoldable pub common : List ℕ → List ℕ → ℕ
common [] m = 0
common (x ∷ l) [] = 0
common (x ∷ l) (y ∷ m) = pick (eqb x y) (suc (common l m)) 0

-- "each one byte below ff, or ff and u32", "the shorter number each"
unfoldable pub length_codes : ℕ → List ℕ
length_codes n = pick (ltb n 0xff) (n ∷ []) (0xff ∷ to_le32 n)

-- "D and A both at most 15 and not both 0 take one byte"
abbrev pub short_part : ℕ → ℕ → Bool
short_part d a = (leb d 15 && leb a 15) && (ltb 0 d || ltb 0 a)

-- "one non-zero byte 16D+A", "else the 00 form with the shorter number each"
unfoldable pub part_codes : ℕ → ℕ → List ℕ
part_codes d a = pick (short_part d a) ((16 * d + a) ∷ []) (0x00 ∷ (length_codes d ++ length_codes a))

-- from the label l to the label m, of which k bytes stay
unfoldable pub label_codes : List ℕ → List ℕ → ℕ → List ℕ
label_codes l m k = part_codes (length l - k) (length m - k) ++ drop k m

-- "a station or section with the same non-empty label drops and appends its last byte (D = A = 1)"
unfoldable pub kept_bytes : List ℕ → List ℕ → ℕ
kept_bytes l m = pick (same l m) (length l - 1) (common l m)

-- ---- dates and positions

unfoldable pub same_date : Dated → Dated → Bool
same_date Undated Undated = true
same_date Undated (Day d) = false
same_date Undated (Range d e) = false
same_date (Day c) Undated = false
same_date (Day c) (Day d) = eqb c d
same_date (Day c) (Range d e) = false
same_date (Range b c) Undated = false
same_date (Range b c) (Day d) = false
same_date (Range b c) (Range d e) = eqb b d && eqb c e

-- a date in a version's codes, "12 if it spans at most 255 days, else 13"
abbrev pub dated_codes : DateCodes → Dated → List ℕ
dated_codes c Undated = c.none ∷ []
dated_codes c (Day d) = c.day ∷ to_le16 d
dated_codes c (Range d e) = pick (leb (e - d) 255) (c.span ∷ (to_le16 d ++ (e - d) ∷ [])) (c.days ∷ (to_le16 d ++ to_le16 e))

-- "A day is 11, a range 12 if it spans at most 255 days, else 13"; no date is 10
abbrev pub v8_dates : DateCodes
v8_dates = record { none = 0x10; day = 0x11; span = 0x12; days = 0x13 }

unfoldable pub same_point : Point → Point → Bool
same_point p q = eqb p.x q.x && (eqb p.y q.y && eqb p.z q.z)

abbrev pub stands_at : Option Point → Point → Bool
stands_at None p = false
stands_at (Some q) p = same_point q p

-- ---- the parts of a leg's codes, in their order; a section has its date before it too

-- "style code if it differs from the current style"
unfoldable pub style_if : ℕ → ℕ → List ℕ
style_if current style = pick (eqb current style) [] (style ∷ [])

-- "date if it differs"
unfoldable pub date_if : DateCodes → Dated → Dated → List ℕ
date_if c current date = pick (same_date current date) [] (dated_codes c date)

-- "MOVE if the position is unset or differs from "from""
unfoldable pub move_if : Option Point → Point → List ℕ
move_if current from = pick (stands_at current from) [] (0x0f ∷ point_bytes to_le32 from)

-- "a leg with the same label uses 0x20"; `last` is the previous label
unfoldable pub line_codes : List ℕ → ℕ → Point → List ℕ → List ℕ
line_codes last flags to label =
    pick (same last label) ((0x60 + flags) ∷ point_bytes to_le32 to)
    ((0x40 + flags) ∷ (label_codes last label (common last label) ++ point_bytes to_le32 to))

-- ---- the other records

unfoldable pub station_codes : List ℕ → Station → List ℕ → List ℕ
station_codes last s label = (0x80 + s.flags) ∷ (label_codes last label (kept_bytes last label) ++ point_bytes to_le32 s.place)

-- whether an i32's bit pattern is that of an i16
unfoldable pub fits_short : ℕ → Bool
fits_short n = leb n 32767 || leb 4294934528 n

-- "XSECT uses i16 if all four fit"
unfoldable pub all_short : Dimensions → Bool
all_short d = fits_short d.left && (fits_short d.right && (fits_short d.up && fits_short d.down))

unfoldable pub section_codes : List ℕ → Section → List ℕ → List ℕ
section_codes last s label =
    let name = label_codes last label (kept_bytes last label) in
    pick (all_short s.size) ((0x30 + s.last) ∷ (name ++ dimension_bytes to_le16 s.size)) ((0x32 + s.last) ∷ (name ++ dimension_bytes to_le32 s.size))

unfoldable pub error_codes : Traverse → List ℕ
error_codes t = 0x1f ∷ traverse_bytes to_le32 t

-- the most bytes that a record's codes take: style, two days, MOVE, and a LINE with a long label part, the longest label and a place
abbrev pub codes_limit : ℕ
codes_limit = 1 + 5 + 13 + (1 + 11 + label_limit + 12)

-- ---- "A record's codes are all the bytes written for it, style, date and MOVE included"

abbrev pub codes : State → Record → List ℕ
codes st (leg g label) =
    style_if st.setting.style g.style
    ++ (date_if v8_dates st.setting.date g.date ++ (move_if st.setting.position g.from ++ line_codes st.label g.flags g.to label))
codes st (station s label) = station_codes st.label s label
-- "Writing puts a date item before a section where it differs" (#106)
codes st (section s label) = date_if v8_dates st.setting.date s.date ++ section_codes st.label s label
codes st (error t) = error_codes t

-- the style, date and position that they leave
abbrev pub setting_after : Setting → Record → Setting
setting_after setting (leg g label) = record { style = g.style; date = g.date; position = Some g.to }
setting_after setting (station s label) = setting
setting_after setting (section s label) = record { style = setting.style; date = s.date; position = setting.position }
setting_after setting (error t) = setting

-- the label that they leave
abbrev pub label_after : List ℕ → Record → List ℕ
label_after last (leg g label) = label
label_after last (station s label) = label
label_after last (section s label) = label
label_after last (error t) = last

abbrev pub after : State → Record → State
after st r = record { label = label_after st.label r; setting = setting_after st.setting r }

-- "Close: 00 unless the style is normal, then 00"
unfoldable pub closing : ℕ → List ℕ
closing style = pick (eqb style 0) (0x00 ∷ []) (0x00 ∷ 0x00 ∷ [])

-- "The 21 bytes `Survex 3D Image File` and linefeed"; `v8` and linefeed; "title line; time line. v8 then has one byte: 0x80 an extended elevation"
unfoldable pub header_codes : Header → List ℕ
header_codes h = magic ++ (118 ∷ 56 ∷ 10 ∷ (h.title ++ (10 ∷ (h.time ++ (10 ∷ (h.extended * 0x80) ∷ [])))))

-- the most bytes that it takes
abbrev pub header_limit : ℕ
header_limit = 24 + title_limit + 1 + time_limit + 2

-- 13: "style 5 after another style"
abbrev pub unsayable : ℕ → Record → Bool
unsayable current (leg g label) = eqb g.style not_said && not (eqb current not_said)
unsayable current (station s label) = false
unsayable current (section s label) = false
unsayable current (error t) = false
