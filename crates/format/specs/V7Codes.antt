-- The codes of v7, document 02, #110: those of each record, of the header and of the end, and refusal 23. Assumes nothing.
use Rattle.std.specs.Prelude.{ℕ, zero, suc, ◌+◌, ◌-◌, ◌/◌, ◌%◌, List, [], ◌∷◌, ◌++◌, Bool, false, ◌&&◌, length, drop, eqb, ltb}
use Rattle.format.specs.Bytes.{pick, to_le16, to_le32}
use Rattle.format.specs.Header.{Header, magic}
use Rattle.format.specs.Label.{label_limit}
use Rattle.format.specs.State.{not_said, State, Record, leg, station, section, error}
use Rattle.format.specs.Sheet.{point_bytes, dimension_bytes, traverse_bytes}
use Rattle.format.specs.Codes.{common, date_if, move_if, all_short, label_after, setting_after}
use Rattle.format.specs.declared.DateCodes.{DateCodes}
use Rattle.format.specs.declared.Section.{Section}

-- ---- labels

-- 0x1f, so many times: "16 bytes at a time"
unfoldable pub sixteens : ℕ → List ℕ
sixteens zero = []
sixteens (suc n) = 0x1f ∷ sixteens n

-- "shorten by codes 10-1f only, 16 bytes at a time and the rest last": d bytes off
unfoldable pub trim_codes : ℕ → List ℕ
trim_codes d = sixteens (d / 16) ++ pick (eqb (d % 16) 0) [] ((0x0f + d % 16) ∷ [])

-- "when nothing is kept and the label is not empty, code 00": from a label of n bytes to its first k
unfoldable pub shorten_codes : ℕ → ℕ → List ℕ
shorten_codes n k = pick (eqb k 0) (pick (eqb n 0) [] (0x00 ∷ [])) (trim_codes (n - k))

-- "a length takes its shortest form": "00-fd itself; fe and u16 plus 254; ff and u32"
unfoldable pub old_length_codes : ℕ → List ℕ
old_length_codes n =
    pick (ltb n 0xfe) (n ∷ [])
    (pick (ltb n 65790) (0xfe ∷ to_le16 (n - 254))
    (0xff ∷ to_le32 n))

-- "A leg, station or section always has its length byte, even for 0": behind the code, the bytes of the label m after its first k
unfoldable pub added_codes : List ℕ → ℕ → List ℕ
added_codes m k = old_length_codes (length m - k) ++ drop k m

-- "keep the longest common start with the previous label"; "These codes stand straight before the item": an item with a code, the label m
-- after l, and what follows it
unfoldable pub labelled_codes : List ℕ → List ℕ → ℕ → List ℕ → List ℕ
labelled_codes l m code fields = shorten_codes (length l) (common l m) ++ (code ∷ (added_codes m (common l m) ++ fields))

-- ---- dates

-- "Dates go by the v7 codes, range with span when it fits in 255"
abbrev pub v7_dates : DateCodes
v7_dates = record { none = 0x24; day = 0x20; span = 0x21; days = 0x23 }

-- ---- the codes of a record: "All else goes as in v8, without style codes"

unfoldable pub v7_section_codes : List ℕ → Section → List ℕ → List ℕ
v7_section_codes last s label =
    pick (all_short s.size) (labelled_codes last label (0x30 + s.last) (dimension_bytes to_le16 s.size))
    (labelled_codes last label (0x32 + s.last) (dimension_bytes to_le32 s.size))

abbrev pub v7_codes : State → Record → List ℕ
v7_codes st (leg g label) =
    date_if v7_dates st.setting.date g.date
    ++ (move_if st.setting.position g.from ++ labelled_codes st.label label (0x80 + g.flags) (point_bytes to_le32 g.to))
v7_codes st (station s label) = labelled_codes st.label label (0x40 + s.flags) (point_bytes to_le32 s.place)
v7_codes st (section s label) = date_if v7_dates st.setting.date s.date ++ v7_section_codes st.label s label
v7_codes st (error t) = 0x22 ∷ traverse_bytes to_le32 t

-- the most bytes that they take: two days, MOVE, a long label taken off 16 bytes at a time, and a LINE with a length of three bytes, the longest
-- label and a place
abbrev pub v7_codes_limit : ℕ
v7_codes_limit = 5 + 13 + (label_limit / 16 + 1) + (1 + 3 + label_limit + 12)

-- "Reading the result gives the same sheet, except that style normal comes back as "not said""
abbrev pub unstyled : Record → Record
unstyled (leg g label) = leg (record { flags = g.flags; style = not_said; date = g.date; from = g.from; to = g.to }) label
unstyled (station s label) = station s label
unstyled (section s label) = section s label
unstyled (error t) = error t

-- the state that they leave
abbrev pub v7_after : State → Record → State
v7_after st r = record { label = label_after st.label r; setting = setting_after st.setting (unstyled r) }

-- "To close, 00 if the label is not empty, then 00"
unfoldable pub v7_closing : List ℕ → List ℕ
v7_closing label = pick (eqb (length label) 0) (0x00 ∷ []) (0x00 ∷ 0x00 ∷ [])

unfoldable pub v7_header_codes : Header → List ℕ
v7_header_codes h = magic ++ (118 ∷ 55 ∷ 10 ∷ (h.title ++ (10 ∷ (h.time ++ (10 ∷ [])))))

-- ---- 23: what v7 can't carry

-- "extended elevation"
abbrev pub v7_bars : Header → Bool
v7_bars h = eqb h.extended 1

-- "station flags 0x20 or 0x40; styles 1 to 4"
abbrev pub v7_unable : Record → Bool
v7_unable (leg g label) = ltb 0 g.style && ltb g.style not_said
v7_unable (station s label) = ltb 0x1f s.flags
v7_unable (section s label) = false
v7_unable (error t) = false
