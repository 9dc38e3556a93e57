-- A LINE, a LABEL or an XSECT with a label part of one byte, a LINE with the same label, a MOVE, and the code that drops some bytes of the
-- label. Assumes nothing.
use Rattle.std.specs.Prelude.{ℕ, ◌+◌, ◌-◌, ◌/◌, ◌%◌, ◌≤◌, ◌<◌, ◌≡◌, List, ◌++◌, length, take, drop, ltb, Option, Some, None}
use Rattle.format.specs.Bytes.{pick, le16, le32, widened}
use Rattle.format.specs.Label.{label_limit}
use Rattle.format.specs.Items.{Item, Shorten, Move as move_to, Label as label_item, Line as line_item, Xsect, whole, item_of, point_of, dimensions_of}
use Rattle.format.specs.declared.Cut.TheVariants.{Trim as trim_cut}
use Rattle.format.specs.declared.Point.{Point}
use Rattle.format.specs.declared.Dimensions.{Dimensions}
use Rattle.format.specs.declared.Leg.{Leg}
use Rattle.format.specs.declared.Station.{Station}
use Rattle.format.specs.declared.Section.{Section as SectionFields}
use Rattle.format.specs.declared.Setting.{Setting}
use Rattle.short.specs.declared.Part.{Part}
use Rattle.short.specs.declared.Short.{Short}
use Rattle.short.specs.declared.Short.TheVariants.{Line, Again, Place, Section, Trim, Move}

-- ---- the label part

-- v8: "one non-zero byte 16D+A", where D bytes can go and the label stays short
pub record NewBrief (b len keep add : ℕ) : Type 0 where
  pub some : b ≡ 0 → ⊥
  pub back : b / 16 ≤ len
  pub keep_is : keep ≡ len - b / 16
  pub add_is : add ≡ b % 16
  pub few : keep + 16 ≤ label_limit
  pub add_few : add < 16

abbrev pub NewPart : Option Part → ℕ → ℕ → Type 0
NewPart None b len = Unit
NewPart (Some p) b len = NewBrief b len p.keep p.add

-- v3 to v7: "a length and bytes to append: 00-fd itself"
pub record OldBrief (b len keep add : ℕ) : Type 0 where
  pub keep_is : keep ≡ len
  pub add_is : add ≡ b
  pub few : keep + 16 ≤ label_limit
  pub add_few : add < 16

abbrev pub OldPart : Option Part → ℕ → ℕ → Type 0
OldPart None b len = Unit
OldPart (Some p) b len = OldBrief b len p.keep p.add

-- ---- what stands behind it, as `kind` has it too: D, the bytes to append and the rest make the item

abbrev pub make_line : ℕ → ℕ → List ℕ → List ℕ → Item
make_line flags d added rest = line_item flags (point_of le32 rest) d added

abbrev pub make_station : ℕ → ℕ → List ℕ → List ℕ → Item
make_station flags d added rest = label_item flags (point_of le32 rest) d added

-- "L R U D as i16 or i32": how many bytes, and what they say
unfoldable pub sides_of : ℕ → ℕ
sides_of code = pick (ltb code 0x32) 8 16

unfoldable pub size_of : ℕ → List ℕ → Dimensions
size_of code rest = pick (ltb code 0x32) (dimensions_of 2 (λ s. widened (le16 s)) rest) (dimensions_of 4 le32 rest)

abbrev pub make_section : ℕ → ℕ → List ℕ → List ℕ → Item
make_section code d added rest = Xsect (code % 2) (size_of code rest) d added

-- the records of a LINE, a LABEL and an XSECT at the front of s whose numbers stand from byte k on, but for their labels
abbrev pub place_at : List ℕ → ℕ → Point
place_at s k = point_of le32 (drop k s)

abbrev pub leg_at : List ℕ → ℕ → ℕ → Setting → Point → Leg
leg_at s k flags setting from = record { flags = flags; style = setting.style; date = setting.date; from = from; to = place_at s k }

abbrev pub station_at : List ℕ → ℕ → ℕ → Station
station_at s k flags = record { flags = flags; place = place_at s k }

abbrev pub section_at : List ℕ → ℕ → ℕ → Setting → SectionFields
section_at s k code setting = record { last = code % 2; date = setting.date; size = size_of code (drop k s) }

-- the label after them
abbrev pub name_at : List ℕ → ℕ → ℕ → List ℕ → List ℕ
name_at s keep add l = take keep l ++ take add (drop 2 s)

-- ---- THE law: after every label of len bytes, the item at the front of s is this one, and its label step succeeds.
-- Its numbers stand from byte k on. What it comes to in a state follows: `brief_leg_lem`, `brief_station`, `brief_section`, `leg_kept` of the proofs.
pub record Brief (version : ℕ) (s : List ℕ) (len keep add k size : ℕ) (make : ℕ → List ℕ → List ℕ → Item) : Type 0 where
  pub there : 33 ≤ length s
  pub kept : keep ≤ len
  pub few : keep + 16 ≤ label_limit
  pub add_few : add < 16
  pub item : item_of version s ≡ whole size (make (len - keep) (take add (drop 2 s)) (drop k s))

-- and of a MOVE
pub record Moves (version : ℕ) (s : List ℕ) : Type 0 where
  pub there : 33 ≤ length s
  pub item : item_of version s ≡ whole 13 (move_to (place_at s 1))

-- and of the code that drops some bytes: "Dropping must leave at least one byte"
pub record Trimmed (version : ℕ) (s : List ℕ) (len keep : ℕ) : Type 0 where
  pub there : 33 ≤ length s
  pub kept : keep < len
  pub some : 1 ≤ keep
  pub short : len ≤ label_limit
  pub item : item_of version s ≡ whole 1 (Shorten (trim_cut (len - keep)))

-- `trim`: of its code alone
pub record TrimCode (code len keep : ℕ) : Type 0 where
  pub low : 0x10 ≤ code
  pub high : code ≤ 0x1f
  pub drops : code - 0x0f < len
  pub keep_is : keep ≡ len - (code - 0x0f)

abbrev pub Trims : Option Short → ℕ → ℕ → Type 0
Trims None code len = Unit
Trims (Some (Line keep add flags)) code len = ⊥
Trims (Some (Again flags)) code len = ⊥
Trims (Some (Place keep add flags)) code len = ⊥
Trims (Some (Section keep add c)) code len = ⊥
Trims (Some (Trim m)) code len = TrimCode code len m
Trims (Some Move) code len = code ≡ 0x0f

-- `same_label`: of its code alone too
pub record RepeatCode (code len flags : ℕ) : Type 0 where
  pub high : code < 0x68
  pub flags_are : flags ≡ code - 0x60
  pub few : len + 16 ≤ label_limit

abbrev pub Repeats : Option Short → ℕ → ℕ → Type 0
Repeats None code len = Unit
Repeats (Some (Line keep add flags)) code len = ⊥
Repeats (Some (Again flags)) code len = RepeatCode code len flags
Repeats (Some (Place keep add flags)) code len = ⊥
Repeats (Some (Section keep add c)) code len = ⊥
Repeats (Some (Trim m)) code len = ⊥
Repeats (Some Move) code len = ⊥

-- ---- an answer tells the item

abbrev pub Finds : Option Short → ℕ → List ℕ → ℕ → Type 0
Finds None version s len = Unit
Finds (Some (Line keep add flags)) version s len = Brief version s len keep add (2 + add) (14 + add) (make_line flags)
Finds (Some (Again flags)) version s len = Brief version s len len 0 1 13 (make_line flags)
Finds (Some (Place keep add flags)) version s len = Brief version s len keep add (2 + add) (14 + add) (make_station flags)
Finds (Some (Section keep add code)) version s len = Brief version s len keep add (2 + add) (2 + add + sides_of code) (make_section code)
Finds (Some (Trim m)) version s len = Trimmed version s len m
Finds (Some Move) version s len = Moves version s

abbrev pub FindsNew : Option Short → List ℕ → ℕ → Type 0
FindsNew r s len = (version : ℕ) → 8 ≤ version → Finds r version s len

abbrev pub FindsOld : Option Short → ℕ → List ℕ → ℕ → Type 0
FindsOld r version s len = version < 8 → Finds r version s len
