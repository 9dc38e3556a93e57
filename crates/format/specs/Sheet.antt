-- The sheet, document 01, "State and sheet": the layout of each record, and the records of a sheet with refusal 12.
-- "Sheet" is document 01's word for the list of records that a file is read into. Assumes nothing.
use Rattle.std.specs.Prelude.{ℕ, ◌+◌, ◌-◌, List, [], ◌∷◌, ◌++◌, Bool, ◌&&◌, not, length, get_or, take, drop, eqb, ltb, leb}
use Rattle.format.specs.Bytes.{pick, be16, be32, to_be16, to_be32}
use Rattle.format.specs.Header.{Header, line_end, ends_in_return, title_limit, time_limit}
use Rattle.format.specs.Label.{label_limit}
use Rattle.format.specs.Items.{point_of, dimensions_of, traverse_of}
use Rattle.format.specs.State.{Record, leg, station, section, error}
use Rattle.format.specs.Refusals.{Result, stop, also, Good, Refusal}
use Rattle.format.specs.Iterate.{iter}
use Rattle.format.specs.declared.Point.{Point}
use Rattle.format.specs.declared.Dimensions.{Dimensions}
use Rattle.format.specs.declared.Traverse.{Traverse}
use Rattle.format.specs.declared.Leg.{Leg}
use Rattle.format.specs.declared.Station.{Station}
use Rattle.format.specs.declared.Section.{Section}
use Rattle.format.specs.declared.Dated.{Dated}
use Rattle.format.specs.declared.Dated.TheVariants.{Undated, Day, Range}

-- ---- numbers in a row, each written by `bytes`

abbrev pub point_bytes : (ℕ → List ℕ) → Point → List ℕ
point_bytes bytes p = bytes p.x ++ (bytes p.y ++ bytes p.z)

abbrev pub dimension_bytes : (ℕ → List ℕ) → Dimensions → List ℕ
dimension_bytes bytes d = bytes d.left ++ (bytes d.right ++ (bytes d.up ++ bytes d.down))

abbrev pub traverse_bytes : (ℕ → List ℕ) → Traverse → List ℕ
traverse_bytes bytes t = bytes t.legs ++ (bytes t.total ++ (bytes t.e ++ (bytes t.h ++ bytes t.v)))

-- ---- the layout: "a big-endian u16 length, then that many bytes"

-- "Sheet version 2 adds date kind, day and last day to section records"; "Reading gives version 2" (#106). Layout and taking apart have the
-- sheet's version as a parameter
abbrev pub sheet_version : ℕ
sheet_version = 2

-- "A sheet is one version byte, 01": version 1, which every call that is given a sheet takes too
abbrev pub undated_version : ℕ
undated_version = 1

abbrev pub prefixed : List ℕ → List ℕ
prefixed body = to_be16 (length body) ++ body

-- "date kind (0 none, 1 day, 2 range), u16 day, u16 last day"; "Unused days are 0"
abbrev pub date_kind : Dated → ℕ
date_kind Undated = 0
date_kind (Day d) = 1
date_kind (Range d e) = 2

abbrev pub date_day : Dated → ℕ
date_day Undated = 0
date_day (Day d) = d
date_day (Range d e) = d

abbrev pub date_last : Dated → ℕ
date_last Undated = 0
date_last (Day d) = 0
date_last (Range d e) = e

abbrev pub date_bytes : Dated → List ℕ
date_bytes date = date_kind date ∷ (to_be16 (date_day date) ++ to_be16 (date_last date))

-- the bytes of each record's body but for its label: "(32 + label)", "(14 + label)", "(23 + label)" and in version 1 "(18 + label)", "(21)"
abbrev pub leg_size : ℕ
leg_size = 32

abbrev pub station_size : ℕ
station_size = 14

abbrev pub section_size : ℕ
section_size = 23

abbrev pub undated_section_size : ℕ
undated_section_size = 18

abbrev pub error_size : ℕ
error_size = 21

-- "With its length bytes .. any other record 4,130": a leg with the longest label
abbrev pub record_limit : ℕ
record_limit = 2 + (leg_size + label_limit)

-- "1 leg: kind, flags, style 0-5, date kind (0 none, 1 day, 2 range), u16 day, u16 last day, from x y z, to x y z, label (32 + label)"
abbrev pub leg_body : Leg → List ℕ → List ℕ
leg_body g label = 1 ∷ g.flags ∷ g.style ∷ (date_bytes g.date ++ (point_bytes to_be32 g.from ++ (point_bytes to_be32 g.to ++ label)))

-- "2 station: kind, flags, x y z, label (14 + label)"
abbrev pub station_body : Station → List ℕ → List ℕ
station_body s label = 2 ∷ s.flags ∷ (point_bytes to_be32 s.place ++ label)

-- version 2: "date kind, day and last day .. straight after the last-in-passage byte (23 + label)"
abbrev pub section_body : Section → List ℕ → List ℕ
section_body s label = 3 ∷ s.last ∷ (date_bytes s.date ++ (dimension_bytes to_be32 s.size ++ label))

-- version 1: "3 section: kind, last 0/1, L R U D as i32, label (18 + label)"; it has no place for a date
abbrev pub undated_section_body : Section → List ℕ → List ℕ
undated_section_body s label = 3 ∷ s.last ∷ (dimension_bytes to_be32 s.size ++ label)

-- "4 error: kind, five i32 (21)"
abbrev pub error_body : Traverse → List ℕ
error_body t = 4 ∷ traverse_bytes to_be32 t

abbrev pub record_body : ℕ → Record → List ℕ
record_body version (leg g label) = leg_body g label
record_body version (station s label) = station_body s label
record_body version (section s label) = pick (eqb version undated_version) (undated_section_body s label) (section_body s label)
record_body version (error t) = error_body t

unfoldable pub layout : ℕ → Record → List ℕ
layout version r = prefixed (record_body version r)

unfoldable pub layout_all : ℕ → List Record → List ℕ
layout_all version [] = []
layout_all version (r ∷ rs) = layout version r ++ layout_all version rs

-- "0 header, first and once: kind, extended 0/1, u16 title length, title, time line"
unfoldable pub header_layout : Header → List ℕ
header_layout h = prefixed (0 ∷ h.extended ∷ (to_be16 (length h.title) ++ (h.title ++ h.time)))

-- "A sheet is one version byte .., then records"
unfoldable pub sheet_of : ℕ → Header → List Record → List ℕ
sheet_of version h rs = version ∷ (header_layout h ++ layout_all version rs)

-- "With its length bytes the header takes at most 4,166", and the version byte stands before it
abbrev pub front_limit : ℕ
front_limit = 1 + (2 + 4 + title_limit + time_limit)

-- ---- a well-formed record: the layout, read back

-- no well-formed record is at the front; or its size and the record
pub data Entry : Type 0 where
  flawed : Entry
  entry : ℕ → Record → Entry

-- a label of the bytes of the body t from k on, in a body of n bytes: "Labels have 0 to 4,096 bytes of any value"
abbrev pub label_fits : ℕ → ℕ → Bool
label_fits n k = leb k n && leb n (k + label_limit)

abbrev pub label_from : ℕ → ℕ → List ℕ → List ℕ
label_from n k t = take (n - k) (drop k t)

-- "Unused days are 0; a range has day < last day"
unfoldable pub good_date : ℕ → ℕ → ℕ → Bool
good_date kind d e = pick (eqb kind 0) (eqb d 0 && eqb e 0) (pick (eqb kind 1) (eqb e 0) (eqb kind 2 && ltb d e))

unfoldable pub date_from : ℕ → ℕ → ℕ → Dated
date_from kind d e = pick (eqb kind 0) Undated (pick (eqb kind 1) (Day d) (Range d e))

-- the parts of a record but for its label, of its bytes t without the length
abbrev pub leg_fields : List ℕ → Leg
leg_fields t =
    record {
      flags = get_or t 1 0;
      style = get_or t 2 0;
      date = date_from (get_or t 3 0) (be16 (drop 4 t)) (be16 (drop 6 t));
      from = point_of be32 (drop 8 t);
      to = point_of be32 (drop 20 t);
    }

abbrev pub station_fields : List ℕ → Station
station_fields t = record { flags = get_or t 1 0; place = point_of be32 (drop 2 t) }

abbrev pub section_fields : List ℕ → Section
section_fields t = record { last = get_or t 1 0; date = date_from (get_or t 2 0) (be16 (drop 3 t)) (be16 (drop 5 t)); size = dimensions_of 4 be32 (drop 7 t) }

-- "a version 1 section having no date"
abbrev pub undated_section_fields : List ℕ → Section
undated_section_fields t = record { last = get_or t 1 0; date = Undated; size = dimensions_of 4 be32 (drop 2 t) }

-- "Flags are at most 07 on a leg and 7f on a station"; "style 0-5"
unfoldable pub leg_entry : ℕ → List ℕ → Entry
leg_entry n t =
    pick (label_fits n leg_size && (leb (get_or t 1 0) 0x07 && (leb (get_or t 2 0) 5 && good_date (get_or t 3 0) (be16 (drop 4 t)) (be16 (drop 6 t)))))
    (entry (2 + n) (leg (leg_fields t) (label_from n leg_size t)))
    flawed

unfoldable pub station_entry : ℕ → List ℕ → Entry
station_entry n t = pick (label_fits n station_size && leb (get_or t 1 0) 0x7f) (entry (2 + n) (station (station_fields t) (label_from n station_size t))) flawed

-- "last 0/1"; a date as on a leg
unfoldable pub section_entry : ℕ → List ℕ → Entry
section_entry n t =
    pick (label_fits n section_size && (leb (get_or t 1 0) 1 && good_date (get_or t 2 0) (be16 (drop 3 t)) (be16 (drop 5 t))))
    (entry (2 + n) (section (section_fields t) (label_from n section_size t)))
    flawed

unfoldable pub undated_section_entry : ℕ → List ℕ → Entry
undated_section_entry n t =
    pick (label_fits n undated_section_size && leb (get_or t 1 0) 1) (entry (2 + n) (section (undated_section_fields t) (label_from n undated_section_size t))) flawed

unfoldable pub error_entry : ℕ → List ℕ → Entry
error_entry n t = pick (eqb n error_size) (entry (2 + n) (error (traverse_of be32 (drop 1 t)))) flawed

-- by the sheet's version
abbrev pub section_in : ℕ → ℕ → List ℕ → Entry
section_in version n t = pick (eqb version undated_version) (undated_section_entry n t) (section_entry n t)

-- by its kind; "A well-formed record keeps the sheet's layout and is no header"
unfoldable pub body_entry : ℕ → ℕ → List ℕ → Entry
body_entry version n t =
    pick (eqb (get_or t 0 0) 1) (leg_entry n t)
    (pick (eqb (get_or t 0 0) 2) (station_entry n t)
    (pick (eqb (get_or t 0 0) 3) (section_in version n t)
    (pick (eqb (get_or t 0 0) 4) (error_entry n t)
    flawed)))

-- whether a record's length bytes and that many bytes more are at the front of s, and at least its kind
unfoldable pub framed : List ℕ → Bool
framed s = leb 3 (length s) && (leb 1 (be16 s) && leb (2 + be16 s) (length s))

-- the record at the front of s
unfoldable pub entry_of : ℕ → List ℕ → Entry
entry_of version s = pick (framed s) (body_entry version (be16 s) (drop 2 s)) flawed

-- ---- the records of a sheet; 12 with the number of the first bad one

abbrev pub entry_step : Entry → ℕ → (ℕ → ℕ → Result) → Result
entry_step flawed number go = stop (Refusal 12 number)
entry_step (entry n r) number go = also r (go n (number + 1))

-- the record at the front of s, which has the number given, and what follows it
unfoldable pub records_step : ℕ → ℕ → List ℕ → ℕ → (ℕ → ℕ → Result) → Result
records_step version at s number go = pick (eqb (length s) 0) (stop Good) (entry_step (entry_of version s) number go)

unfoldable pub records_from : ℕ → ℕ → List ℕ → ℕ → Result
records_from version at s number = iter (records_step version) (λ p. stop Good) at s number

-- the records that follow one another in s; "Record numbers start at 0"
unfoldable pub records_of : ℕ → List ℕ → Result
records_of version s = records_from version 0 s 0

-- ---- a sheet

-- "Title and time line keep the header's rules and hold no linefeed"
unfoldable pub good_text : ℕ → List ℕ → Bool
good_text limit l = eqb (line_end l) (length l) && (leb (length l) limit && not (ends_in_return l))

-- the header record's parts, of its bytes t without the length
abbrev pub header_from : ℕ → List ℕ → Header
header_from n t = record { extended = get_or t 1 0; title = take (be16 (drop 2 t)) (drop 4 t); time = take (n - (4 + be16 (drop 2 t))) (drop (4 + be16 (drop 2 t)) t) }

unfoldable pub good_header : ℕ → List ℕ → Bool
good_header n t =
    (eqb (get_or t 0 0) 0 && leb (get_or t 1 0) 1) && (leb (4 + be16 (drop 2 t)) n && (good_text title_limit (header_from n t).title && good_text time_limit (header_from n t).time))

-- whether a sheet's version byte is the one given and its header record is good: else "0 for version byte or header"
unfoldable pub good_front : ℕ → List ℕ → Bool
good_front version sheet =
    eqb (get_or sheet 0 0) version && (framed (drop 1 sheet) && (leb 4 (be16 (drop 1 sheet)) && good_header (be16 (drop 1 sheet)) (drop 3 sheet)))

unfoldable pub front_header : List ℕ → Header
front_header sheet = header_from (be16 (drop 1 sheet)) (drop 3 sheet)

-- what follows the header
unfoldable pub behind_front : List ℕ → List ℕ
behind_front sheet = drop (3 + be16 (drop 1 sheet)) sheet

-- 12: "sheet breaks the layout", here the one of the version given
unfoldable pub version_result : ℕ → List ℕ → Result
version_result version sheet = pick (good_front version sheet) (records_of version (behind_front sheet)) (stop (Refusal 12 0))

-- "takes both versions": 01 is judged by version 1's layout, all else by version 2's, which refuses every byte but 02
unfoldable pub version_of : List ℕ → ℕ
version_of sheet = pick (eqb (get_or sheet 0 0) undated_version) undated_version sheet_version

unfoldable pub sheet_result : List ℕ → Result
sheet_result sheet = version_result (version_of sheet) sheet
