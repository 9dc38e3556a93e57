-- Items, document 01, "Items, v3 to v7" and "Items, v8": the item at the front of the bytes, or refusal 4 or 5.
-- Nothing here looks at the state. Assumes nothing.
use Rattle.std.specs.Prelude.{ℕ, ◌+◌, ◌-◌, ◌/◌, ◌%◌, List, length, get_or, take, drop, eqb, ltb, Option, None, Some}
use Rattle.format.specs.Bytes.{pick, le16, le32, widened}
use Rattle.format.specs.declared.Cut.{Cut}
use Rattle.format.specs.declared.Cut.TheVariants.{ToDot, Trim}
use Rattle.format.specs.declared.LabelPart.{LabelPart}
use Rattle.format.specs.declared.Point.{Point}
use Rattle.format.specs.declared.Dimensions.{Dimensions}
use Rattle.format.specs.declared.Traverse.{Traverse}

-- numbers that follow one another in s, each read by `number` (and `width` bytes long):
-- "coordinates i32 centimetres"; "L R U D"; "ERROR, five i32: legs, length, E, H, V"
abbrev pub point_of : (List ℕ → ℕ) → List ℕ → Point
point_of number s = record { x = number s; y = number (drop 4 s); z = number (drop 8 s) }

abbrev pub dimensions_of : ℕ → (List ℕ → ℕ) → List ℕ → Dimensions
dimensions_of width number s =
    record { left = number s; right = number (drop width s); up = number (drop (width + width) s); down = number (drop (width + width + width) s) }

abbrev pub traverse_of : (List ℕ → ℕ) → List ℕ → Traverse
traverse_of number s =
    record { legs = number s; total = number (drop 4 s); e = number (drop 8 s); h = number (drop 12 s); v = number (drop 16 s) }

-- an item; a label is D bytes to drop and the bytes to append
pub data Item : Type 0 where
  -- v3 to v7, 00: "label empty: end; else empty it"
  Stop : Item
  Shorten : Cut → Item
  -- v8: "00-04 set style"
  Style : ℕ → Item
  Move : Point → Item
  NoDate : Item
  -- the first and the last day; a single day is both
  Date : ℕ → ℕ → Item
  Error : Traverse → Item
  -- 1 where it is the last in its passage, dimensions, D and the bytes to append
  Xsect : ℕ → Dimensions → ℕ → List ℕ → Item
  -- flags, place, D and the bytes to append
  Label : ℕ → Point → ℕ → List ℕ → Item
  Line : ℕ → Point → ℕ → List ℕ → Item

-- a refusal, or the item with its size in bytes
pub data Decoded : Type 0 where
  faulty : ℕ → Decoded
  whole : ℕ → Item → Decoded

-- "All other codes and flag bits are reserved": 4
abbrev pub reserved : Decoded
reserved = faulty 4

-- 5 where the item's n bytes are not all there
unfoldable pub sized : ℕ → List ℕ → Item → Decoded
sized n s it = pick (ltb (length s) n) (faulty 5) (whole n it)

-- ---- label parts: the bytes t after the code begin with the size of the part's own numbers, then the bytes to append

-- the numbers of a label part: its own size, D and A
abbrev pub numbers : ℕ → ℕ → ℕ → Option LabelPart
numbers k d a = Some (record { size = k; drop = d; add = a })

-- v3 to v7: "A label is a length and bytes to append: 00-fd itself; fe and u16 plus 254; ff and u32"
unfoldable pub old_part : List ℕ → Option LabelPart
old_part t =
    pick (ltb (length t) 1) None
    (pick (ltb (get_or t 0 0) 0xfe) (numbers 1 0 (get_or t 0 0))
    (pick (eqb (get_or t 0 0) 0xfe)
    (pick (ltb (length t) 3) None (numbers 3 0 (le16 (drop 1 t) + 254)))
    (pick (ltb (length t) 5) None (numbers 5 0 (le32 (drop 1 t))))))

-- v8: "each one byte below ff, or ff and u32": the size of the number at the front of t, 0 where it is unfinished
unfoldable pub length_size : List ℕ → ℕ
length_size t = pick (ltb (length t) 1) 0 (pick (ltb (get_or t 0 0) 0xff) 1 (pick (ltb (length t) 5) 0 5))

-- its value
unfoldable pub length_value : List ℕ → ℕ
length_value t = pick (ltb (get_or t 0 0) 0xff) (get_or t 0 0) (le32 (drop 1 t))

-- "or 00, then D, then A"
unfoldable pub long_part : List ℕ → Option LabelPart
long_part t =
    let d = length_size (drop 1 t) in
    let a = length_size (drop (1 + d) t) in
    pick (eqb d 0) None
    (pick (eqb a 0) None (numbers (1 + d + a) (length_value (drop 1 t)) (length_value (drop (1 + d) t))))

-- v8: "A label is D bytes to drop, then A to append: one non-zero byte 16D+A; or 00, then D, then A"
unfoldable pub new_part : List ℕ → Option LabelPart
new_part t =
    pick (ltb (length t) 1) None
    (pick (eqb (get_or t 0 0) 0x00) (long_part t) (numbers 1 (get_or t 0 0 / 16) (get_or t 0 0 % 16)))

-- an item of a code, a label part and n more bytes: `make` is given D, the bytes to append and what follows them
abbrev pub with_part : Option LabelPart → List ℕ → ℕ → (ℕ → List ℕ → List ℕ → Item) → Decoded
with_part None t n make = faulty 5
with_part (Some q) t n make = sized (q.size + q.add + n) t (make q.drop (take q.add (drop q.size t)) (drop (q.size + q.add) t))

-- the code's own byte added to a size
abbrev pub behind_code : Decoded → Decoded
behind_code (faulty k) = faulty k
behind_code (whole n it) = whole (1 + n) it

unfoldable pub labelled_item : Option LabelPart → List ℕ → ℕ → (ℕ → List ℕ → List ℕ → Item) → Decoded
labelled_item p t n make = behind_code (with_part p t n make)

-- LABEL and LINE: flags, label, x y z
unfoldable pub station_item : ℕ → Option LabelPart → List ℕ → Decoded
station_item flags p t = labelled_item p t 12 (λ d added rest. Label flags (point_of le32 rest) d added)

unfoldable pub line_item : ℕ → Option LabelPart → List ℕ → Decoded
line_item flags p t = labelled_item p t 12 (λ d added rest. Line flags (point_of le32 rest) d added)

-- 30-31, 32-33: "XSECT: label, then L R U D as i16 or i32; bit 0: last in passage"
unfoldable pub section_item : ℕ → Option LabelPart → List ℕ → Decoded
section_item code p t =
    pick (ltb code 0x32)
    (labelled_item p t 8 (λ d added rest. Xsect (code % 2) (dimensions_of 2 (λ s. widened (le16 s)) rest) d added))
    (labelled_item p t 16 (λ d added rest. Xsect (code % 2) (dimensions_of 4 le32 rest) d added))

-- ---- items without a label; s begins with the code

unfoldable pub move_item : List ℕ → Decoded
move_item s = sized 13 s (Move (point_of le32 (drop 1 s)))

unfoldable pub error_item : List ℕ → Decoded
error_item s = sized 21 s (Error (traverse_of le32 (drop 1 s)))

-- "u16 day / day and u8 span / two days / none": v7 and v8
unfoldable pub day_item : List ℕ → Decoded
day_item s = sized 3 s (Date (le16 (drop 1 s)) (le16 (drop 1 s)))

unfoldable pub span_item : List ℕ → Decoded
span_item s = sized 4 s (Date (le16 (drop 1 s)) (le16 (drop 1 s) + get_or s 3 0))

unfoldable pub days_item : List ℕ → Decoded
days_item s = sized 5 s (Date (le16 (drop 1 s)) (le16 (drop 3 s)))

-- "Seconds become days, before 9 is judged: seconds / 86400, rounded down, plus 25567. Day 0 is 1 January 1900"
unfoldable pub day_of_seconds : ℕ → ℕ
day_of_seconds n = n / 86400 + 25567

-- v4 to v6: "date / two dates, u32 seconds since 1970"
unfoldable pub seconds_item : List ℕ → Decoded
seconds_item s = sized 5 s (Date (day_of_seconds (le32 (drop 1 s))) (day_of_seconds (le32 (drop 1 s))))

unfoldable pub two_seconds_item : List ℕ → Decoded
two_seconds_item s = sized 9 s (Date (day_of_seconds (le32 (drop 1 s))) (day_of_seconds (le32 (drop 5 s))))

-- ---- the tables; each line is a line of document 01's, in the order of the codes

-- v4 to v6, 20-21
unfoldable pub old_date_item : ℕ → List ℕ → Decoded
old_date_item code s =
    pick (eqb code 0x20) (seconds_item s)
    (pick (eqb code 0x21) (two_seconds_item s)
    reserved)

-- v7, 20 / 21 / 23 / 24
unfoldable pub v7_date_item : ℕ → List ℕ → Decoded
v7_date_item code s =
    pick (eqb code 0x20) (day_item s)
    (pick (eqb code 0x21) (span_item s)
    (pick (eqb code 0x23) (days_item s)
    (pick (eqb code 0x24) (whole 1 NoDate)
    reserved)))

-- v3 to v7, 20-2f: ERROR from v6 on, dates from v4 on
unfoldable pub old_middle_item : ℕ → ℕ → List ℕ → Decoded
old_middle_item version code s =
    pick (eqb code 0x22) (pick (ltb version 6) reserved (error_item s))
    (pick (ltb version 4) reserved
    (pick (ltb version 7) (old_date_item code s)
    (v7_date_item code s)))

-- v3 to v7, 00-1f
unfoldable pub old_low_item : ℕ → List ℕ → Decoded
old_low_item code s =
    pick (eqb code 0x00) (whole 1 Stop)
    (pick (ltb code 0x0f) (whole 1 (Shorten (ToDot code)))
    (pick (eqb code 0x0f) (move_item s)
    (whole 1 (Shorten (Trim (code - 15))))))

-- v3 to v7, 30-ff: XSECT from v5 on, LABEL with flags 0x1f, LINE with flags 0x07
unfoldable pub old_high_item : ℕ → ℕ → List ℕ → Decoded
old_high_item version code t =
    pick (ltb code 0x34) (pick (ltb version 5) reserved (section_item code (old_part t) t))
    (pick (ltb code 0x40) reserved
    (pick (ltb code 0x60) (station_item (code - 0x40) (old_part t) t)
    (pick (ltb code 0x80) reserved
    (pick (ltb code 0x88) (line_item (code - 0x80) (old_part t) t)
    reserved))))

-- v8, 10-13
unfoldable pub new_date_item : ℕ → List ℕ → Decoded
new_date_item code s =
    pick (eqb code 0x10) (whole 1 NoDate)
    (pick (eqb code 0x11) (day_item s)
    (pick (eqb code 0x12) (span_item s)
    (days_item s)))

-- v8, 00-2f
unfoldable pub new_low_item : ℕ → List ℕ → Decoded
new_low_item code s =
    pick (ltb code 0x05) (whole 1 (Style code))
    (pick (ltb code 0x0f) reserved
    (pick (eqb code 0x0f) (move_item s)
    (pick (ltb code 0x14) (new_date_item code s)
    (pick (eqb code 0x1f) (error_item s)
    reserved))))

-- v8, 30-ff: LINE with flags 0x07, where "0x20 means no label bytes and no change"; LABEL with flags 0x7f
unfoldable pub new_high_item : ℕ → List ℕ → Decoded
new_high_item code t =
    pick (ltb code 0x34) (section_item code (new_part t) t)
    (pick (ltb code 0x40) reserved
    (pick (ltb code 0x48) (line_item (code - 0x40) (new_part t) t)
    (pick (ltb code 0x60) reserved
    (pick (ltb code 0x68) (line_item (code - 0x60) (numbers 0 0 0) t)
    (pick (ltb code 0x80) reserved
    (station_item (code - 0x80) (new_part t) t))))))

-- the item at the front of s, in a file of the version; 5 where nothing is there ("no end")
unfoldable pub item_of : ℕ → List ℕ → Decoded
item_of version s =
    let code = get_or s 0 0 in
    pick (ltb (length s) 1) (faulty 5)
    (pick (ltb version 8)
    (pick (ltb code 0x20) (old_low_item code s)
    (pick (ltb code 0x30) (old_middle_item version code s)
    (old_high_item version code (drop 1 s))))
    (pick (ltb code 0x30) (new_low_item code s)
    (new_high_item code (drop 1 s))))
