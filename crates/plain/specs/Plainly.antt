-- The commonest records of a sheet, whose codes are one item with a label part of one byte: what is told of the record at the front of s, and
-- what a state has to be for it. Assumes nothing.
use Rattle.format.specs.declared.Point.{Point}
use Rattle.std.specs.Prelude.{ℕ, ◌+◌, ◌-◌, ◌*◌, ◌/◌, ◌%◌, ◌≤◌, ◌≡◌, List, ◌∷◌, ◌++◌, true, false, ◌&&◌, length, get_or, take, drop, ltb, Option, Some, None}
use Rattle.format.specs.Bytes.{be16, be32, to_le16, to_le32, same}
use Rattle.format.specs.Items.{point_of, dimensions_of}
use Rattle.format.specs.Sheet.{point_bytes, dimension_bytes, date_kind, date_day, date_last}
use Rattle.format.specs.Codes.{common, short_part, label_codes, codes, after, unsayable}
use Rattle.format.specs.State.{not_said}
use Rattle.format.specs.V7Codes.{labelled_codes, v7_codes, v7_after, v7_unable}
use Rattle.format.specs.Fields.{record_of, state_of}
use Rattle.format.specs.WellFormed.{GoodDated}
use Rattle.format.specs.declared.Dated.{Dated}
use Rattle.format.specs.declared.Setting.{Setting}
use Rattle.format.specs.declared.Fields.{Fields}
use Rattle.sheet.specs.Seen.{label_of, EntryTold}
use Rattle.plain.specs.declared.Form.{Form}
use Rattle.plain.specs.declared.Form.TheVariants.{Leg, Station, Narrow, Wide}
use Rattle.plain.specs.declared.Head.{Head}
use Rattle.plain.specs.declared.Item.{Item}

-- ---- style and date as one number: the six bytes of a leg's record, the lowest first

abbrev pub mark_from : ℕ → ℕ → ℕ → ℕ → ℕ
mark_from style kind d e = style + 256 * (kind + 256 * (d / 256 + 256 * (d % 256 + 256 * (e / 256 + 256 * (e % 256)))))

abbrev pub mark_of : ℕ → Dated → ℕ
mark_of style date = mark_from style (date_kind date) (date_day date) (date_last date)

-- ---- the forms

-- where the label starts
abbrev pub label_at : Form → ℕ
label_at Leg = 34
label_at Station = 16
label_at Narrow = 25
label_at Wide = 25

-- what ends the codes
abbrev pub tail_of : Form → List ℕ → List ℕ
tail_of Leg s = point_bytes to_le32 (point_of be32 (drop 22 s))
tail_of Station s = point_bytes to_le32 (point_of be32 (drop 4 s))
tail_of Narrow s = dimension_bytes to_le16 (dimensions_of 4 be32 (drop 9 s))
tail_of Wide s = dimension_bytes to_le32 (dimensions_of 4 be32 (drop 9 s))

abbrev pub tail_size : Form → ℕ
tail_size Leg = 12
tail_size Station = 12
tail_size Narrow = 8
tail_size Wide = 16

-- the position that the record leaves
abbrev pub position_after : Form → List ℕ → Option Point → Option Point
position_after Leg s old = Some (point_of be32 (drop 22 s))
position_after Station s old = old
position_after Narrow s old = old
position_after Wide s old = old

-- ---- v7

-- the code of the same item in v7
abbrev pub v7_code : Form → ℕ → ℕ
v7_code Leg code = code + 0x40
v7_code Station code = code - 0x40
v7_code Narrow code = code
v7_code Wide code = code

-- v7 has no styles: its state says none
abbrev pub unsaid : Setting → Setting
unsaid setting = record { style = not_said; date = setting.date; position = setting.position }

-- ---- what is told

-- a record of this size is at the front of s; in this setting, after another label, its codes are the code, a label part and the tail; it
-- leaves style and date as they are, and has no fault
pub record Goes (version : ℕ) (s : List ℕ) (setting : Setting) (size code : ℕ) (form : Form) : Type 0 where
  pub fields : Fields
  pub told : EntryTold (Some (record { size = size; fields = fields; from = label_at form })) version s
  pub codes_are : (last label : List ℕ) → same last label ≡ false
      → codes (state_of setting last) (record_of fields label) ≡ code ∷ (label_codes last label (common last label) ++ tail_of form s)
  pub leaves : (last label : List ℕ) → after (state_of setting last) (record_of fields label)
      ≡ state_of (record { style = setting.style; date = setting.date; position = position_after form s setting.position }) label
  pub sayable : (label : List ℕ) → unsayable setting.style (record_of fields label) ≡ false
  -- in v7 its codes are one item with its label, and v7 can carry it where its style and flags let it
  pub v7_codes_are : (last label : List ℕ)
      → v7_codes (state_of setting last) (record_of fields label) ≡ labelled_codes last label (v7_code form code) (tail_of form s)
  pub v7_leaves : (last label : List ℕ) → v7_after (state_of (unsaid setting) last) (record_of fields label)
      ≡ state_of (record { style = not_said; date = setting.date; position = position_after form s setting.position }) label
  pub v7_able : (label : List ℕ) → (ltb 0 setting.style && ltb setting.style not_said) ≡ false → code ≤ 0x9f
      → v7_unable (record_of fields label) ≡ false

-- the same in every setting with this mark and position
pub record Headed (version : ℕ) (s : List ℕ) (mark : ℕ) (position : Option Point) (size code : ℕ) (form : Form) : Type 0 where
  pub inside : label_at form ≤ size
  pub goes : (style : ℕ) (date : Dated) → style ≤ 5 → GoodDated date → mark ≡ mark_of style date
      → Goes version s (record { style = style; date = date; position = position }) size code form

abbrev pub HeadTold : Option Head → ℕ → List ℕ → ℕ → Option Point → Type 0
HeadTold None version s mark position = Unit
HeadTold (Some h) version s mark position = Headed version s mark position (2 + be16 s) h.code h.form

-- this form, with a code from least to most
abbrev pub Shaped : Form → ℕ → ℕ → Option Head → Type 0
Shaped f least most None = Unit
Shaped f least most (Some h) = (h.form ≡ f) × (least ≤ h.code) × (h.code ≤ most)

-- a leg is the same in each version, a station in each state too, and a cross-section's position does not count
abbrev pub LegTold : Option Head → List ℕ → ℕ → Option Point → Type 0
LegTold r s mark position = Shaped Leg 0x40 0x47 r × ((version : ℕ) → HeadTold r version s mark position)

abbrev pub StationTold : Option Head → List ℕ → Type 0
StationTold r s = Shaped Station 0x80 (0x80 + get_or s 3 0) r × ((version mark : ℕ) (position : Option Point) → HeadTold r version s mark position)

abbrev pub SectionTold : Option Head → List ℕ → ℕ → Type 0
SectionTold r s mark = (position : Option Point) → HeadTold r 2 s mark position

-- its label keeps so many bytes of the previous one, and the label part takes one byte
pub record Plainly (version : ℕ) (s : List ℕ) (mark : ℕ) (position : Option Point) (last : List ℕ) (size kept code : ℕ) (form : Form) : Type 0 where
  pub headed : Headed version s mark position size code form
  pub within : size ≤ length s
  pub kept_is : kept ≡ common last (label_of size (label_at form) s)
  pub kept_first : kept ≤ length last
  pub kept_second : label_at form + kept ≤ size
  pub short : short_part (length last - kept) (size - label_at form - kept) ≡ true
  pub few_dropped : length last - kept ≤ 15
  pub few_added : size - label_at form - kept ≤ 15
  pub other : same last (label_of size (label_at form) s) ≡ false

abbrev pub Found : Option Item → ℕ → List ℕ → ℕ → Option Point → List ℕ → Type 0
Found None version s mark position last = Unit
Found (Some item) version s mark position last = Plainly version s mark position last item.size item.kept item.code item.form

-- ---- between the two: a head that is known, and a label behind it

-- the item is that of the head, and the label part takes one byte
abbrev pub Labelled : Option Item → Head → List ℕ → ℕ → List ℕ → Type 0
Labelled None found s size last = Unit
Labelled (Some item) found s size last =
    (item.size ≡ size) × (found ≡ record { code = item.code; form = item.form }) × (item.kept ≡ common last (label_of size (label_at item.form) s))
    × (short_part (length last - item.kept) (length (label_of size (label_at item.form) s) - item.kept) ≡ true)

-- ---- its codes

-- what `Plainly` says of numbers, behind a label of so many bytes
pub record Fitting (item : Item) (long : ℕ) (s : List ℕ) : Type 0 where
  pub within : item.size ≤ length s
  pub kept_first : item.kept ≤ long
  pub kept_second : label_at item.form + item.kept ≤ item.size
  pub few_dropped : long - item.kept ≤ 15
  pub few_added : item.size - label_at item.form - item.kept ≤ 15

-- the bytes of the record that are added to the label
abbrev pub added_of : Item → List ℕ → List ℕ
added_of item s = take (item.size - (label_at item.form + item.kept)) (drop (label_at item.form + item.kept) s)

abbrev pub plain_codes : Item → ℕ → List ℕ → List ℕ
plain_codes item long s = item.code ∷ (16 * (long - item.kept) + length (added_of item s)) ∷ (added_of item s ++ tail_of item.form s)
