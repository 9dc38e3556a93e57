-- The starred cases of document 01, "Cases at the edges", as one table under one statement about the definitions. Assumes nothing.
use Prim.Native.Nat.{ℕ}
use mathlib.Core.Path.{◌≡◌, refl}
use mathlib.Core.List.{List, [], ◌∷◌, ◌++◌}
use lib.ListN.{take, drop, replicate}
use Rattle.format.specs.Bytes.{pick, le16, le32, to_le16, to_le32, to_be16, to_be32, widened, same, over}
use Rattle.format.specs.Header.{Opening, magic, line_end, ends_in_return, good_line, extended_byte, closed_header, time_line, title_line, good_version}
use Rattle.format.specs.Header.{header_of, opening_of}
use Rattle.format.specs.Label.{dots, dot_from, kept_to_dot, label_step}
use Rattle.format.specs.Items.{sized, old_part, length_size, length_value, long_part, new_part, labelled_item, station_item, line_item, section_item}
use Rattle.format.specs.Items.{move_item, error_item, day_item, span_item, days_item, day_of_seconds, seconds_item, two_seconds_item, old_date_item}
use Rattle.format.specs.Items.{v7_date_item, old_middle_item, old_low_item, old_high_item, new_date_item, new_low_item, new_high_item, item_of}
use Rattle.format.specs.State.{start, named, station, section, Next, bad, end, on, made, date_of, bad_dates}
use Rattle.format.specs.Iterate.{iter, iter_up}
use Rattle.format.specs.Sheet.{layout, layout_all, header_layout, sheet_of}
use Rattle.format.specs.Reading.{next, ended, read_step, run, items_of, read_outcome, read_buffer}
use Rattle.format.specs.Refusals.{Outcome, accepted, refused}
use Rattle.format.specs.Stepping.{Step, Gathered}
use Rattle.std.specs.Prelude.{Result}
use Rattle.format.specs.declared.Refusal.{Refusal}
use Rattle.format.specs.declared.Stamp.{Stamp}
use Rattle.format.specs.Codes.{common, length_codes, part_codes, label_codes, kept_bytes, same_date, date_if, fits_short, all_short, station_codes}
use Rattle.format.specs.Codes.{section_codes, codes}
use Rattle.format.specs.declared.Point.{Point}
use Rattle.format.specs.declared.Dated.{Dated}
use Rattle.format.specs.declared.Dated.TheVariants.{Undated, Day}

-- what a row of a table speaks of
pub data Shown : Type 0 where
  -- the answer of reading a file into 64 bytes of 7, and what they then hold up to the length given
  reading : Outcome → List ℕ → Shown
  -- the label after an item
  label : List ℕ → Shown
  -- the date after an item
  date : Dated → Shown
  -- a refusal of an item
  no : ℕ → Shown
  -- bytes written
  written : List ℕ → Shown
  -- what a header comes to; an answer; a step; a reader stepped; a file's time
  opening : Opening → Shown
  answer : Outcome → Shown
  step : Step → Shown
  stepping : Gathered → Shown
  stamp : Result Stamp Refusal → Shown
  -- anything else
  other : Shown

-- a row: what the definitions give, and what the case says is due
pub record Row : Type 0 where
  pub given : Shown
  pub due : Shown

abbrev pub read_file : List ℕ → ℕ → Shown
read_file file n = reading (read_outcome file 64) (take n (read_buffer file (replicate 64 7)))

abbrev pub label_after : Next → Shown
label_after (bad k) = no k
label_after end = other
label_after (on n st) = label st.label
label_after (made n r st) = label st.label

abbrev pub date_after : Next → Shown
date_after (bad k) = no k
date_after end = other
date_after (on n st) = date st.setting.date
date_after (made n r st) = date st.setting.date

-- the item of a version from a label on
abbrev pub from_label : ℕ → List ℕ → List ℕ → Shown
from_label version l item = label_after (next version item (named l start))

abbrev pub date_of_item : ℕ → List ℕ → Shown
date_of_item version item = date_after (next version item start)

-- v8, title `A`, time `@0`, byte 00, then the items
abbrev pub case1 : List ℕ → List ℕ
case1 items = magic ++ (118 ∷ 56 ∷ 10 ∷ 65 ∷ 10 ∷ 64 ∷ 48 ∷ 10 ∷ 0 ∷ items)

-- v3, title `A`, time `T`, then the items
abbrev pub case3 : List ℕ → List ℕ
case3 items = magic ++ (118 ∷ 51 ∷ 10 ∷ 65 ∷ 10 ∷ 84 ∷ 10 ∷ items)

-- the label `a.b.0123456789abcdef`
abbrev pub case4 : List ℕ
case4 = 97 ∷ 46 ∷ 98 ∷ 46 ∷ 48 ∷ 49 ∷ 50 ∷ 51 ∷ 52 ∷ 53 ∷ 54 ∷ 55 ∷ 56 ∷ 57 ∷ 97 ∷ 98 ∷ 99 ∷ 100 ∷ 101 ∷ 102 ∷ []

-- a v3 station and a v8 station at the origin, whose label is n times `a`; n is 254 or more
abbrev pub old_station : ℕ → ℕ → ℕ → List ℕ
old_station n low high = 64 ∷ 254 ∷ low ∷ high ∷ (replicate n 97 ++ replicate 12 0)

abbrev pub new_station : ℕ → ℕ → ℕ → List ℕ
new_station n low high = 128 ∷ 0 ∷ 0 ∷ 255 ∷ low ∷ high ∷ 0 ∷ 0 ∷ (replicate n 97 ++ replicate 12 0)

abbrev pub origin : Point
origin = record { x = 0; y = 0; z = 0 }

-- the label part that a station of n bytes `a` has after an empty label
abbrev pub part_of_label : ℕ → ℕ → Shown
part_of_label n size = written (take size (drop 1 (codes start (station (record { flags = 0; place = origin }) (replicate n 97)))))

abbrev pub section_written : ℕ → Shown
section_written down = written (codes start
    (section (record { last = 0; date = Undated; size = record { left = 32767; right = 32767; up = 32767; down = down } }) (97 ∷ [])))

abbrev pub table : List Row
table =
    -- 1. v8, title `A`, time `@0`, byte 00, then 00 00 (32 bytes): sheet 02 00 07 00 00 00 01 41 40 30 (#106: cases 1 and 3 "begin with 02")
    record { given = read_file (case1 (0 ∷ 0 ∷ [])) 11; due = reading (accepted 10 0 8) (2 ∷ 0 ∷ 7 ∷ 0 ∷ 0 ∷ 0 ∷ 1 ∷ 65 ∷ 64 ∷ 48 ∷ 7 ∷ []) }
    -- 2. The same less its last byte: 5 at 31. One 00 more: 10 at 32
    ∷ record { given = read_file (case1 (0 ∷ [])) 2; due = reading (refused 5 31) (7 ∷ 7 ∷ []) }
    ∷ record { given = read_file (case1 (0 ∷ 0 ∷ 0 ∷ [])) 2; due = reading (refused 10 32) (7 ∷ 7 ∷ []) }
    -- 3. v3, title `A`, time `T`, then 00 (29 bytes): sheet 02 00 06 00 00 00 01 41 54
    ∷ record { given = read_file (case3 (0 ∷ [])) 10; due = reading (accepted 9 0 3) (2 ∷ 0 ∷ 6 ∷ 0 ∷ 0 ∷ 0 ∷ 1 ∷ 65 ∷ 84 ∷ 7 ∷ []) }
    -- 4. Label `a.b.0123456789abcdef`: code 01 leaves `a.b.`, 02 leaves `a.`, 03 gives 6
    ∷ record { given = from_label 3 case4 (1 ∷ []); due = label (97 ∷ 46 ∷ 98 ∷ 46 ∷ []) }
    ∷ record { given = from_label 3 case4 (2 ∷ []); due = label (97 ∷ 46 ∷ []) }
    ∷ record { given = from_label 3 case4 (3 ∷ []); due = no 6 }
    -- 5. Code 1f: 17 bytes leave 1; 16 give 6
    ∷ record { given = from_label 3 (replicate 17 97) (31 ∷ []); due = label (97 ∷ []) }
    ∷ record { given = from_label 3 (replicate 16 97) (31 ∷ []); due = no 6 }
    -- 6. v7 21 ff ff 00 is day 65535; with span 01, 9
    ∷ record { given = date_of_item 7 (33 ∷ 255 ∷ 255 ∷ 0 ∷ []); due = date (Day 65535) }
    ∷ record { given = date_of_item 7 (33 ∷ 255 ∷ 255 ∷ 1 ∷ []); due = no 9 }
    -- 7. v6 seconds 0 is day 25567; 3453321599 is 65535; 3453321600 gives 9
    ∷ record { given = date_of_item 6 (32 ∷ 0 ∷ 0 ∷ 0 ∷ 0 ∷ []); due = date (Day 25567) }
    ∷ record { given = date_of_item 6 (32 ∷ to_le32 3453321599); due = date (Day 65535) }
    ∷ record { given = date_of_item 6 (32 ∷ to_le32 3453321600); due = no 9 }
    -- 8. From an empty label, A = 15 writes 0f; 16 writes 00 00 10; 255 writes 00 00 ff ff 00 00 00
    ∷ record { given = part_of_label 15 2; due = written (15 ∷ 97 ∷ []) }
    ∷ record { given = part_of_label 16 4; due = written (0 ∷ 0 ∷ 16 ∷ 97 ∷ []) }
    ∷ record { given = part_of_label 255 8; due = written (0 ∷ 0 ∷ 255 ∷ 255 ∷ 0 ∷ 0 ∷ 0 ∷ 97 ∷ []) }
    -- 9. Label 4,096 good, 4,097 gives 7: in an old version, where the length is fe and 3842 or 3843, and in v8
    ∷ record { given = from_label 3 [] (old_station 4096 2 15); due = label (replicate 4096 97) }
    ∷ record { given = from_label 3 [] (old_station 4097 3 15); due = no 7 }
    ∷ record { given = from_label 8 [] (new_station 4096 0 16); due = label (replicate 4096 97) }
    ∷ record { given = from_label 8 [] (new_station 4097 1 16); due = no 7 }
    -- 10. Section of 32767s takes i16; one 32768 makes all i32
    ∷ record { given = section_written 32767; due = written (48 ∷ 1 ∷ 97 ∷ 255 ∷ 127 ∷ 255 ∷ 127 ∷ 255 ∷ 127 ∷ 255 ∷ 127 ∷ []) }
    ∷ record { given = section_written 32768; due = written (50 ∷ 1 ∷ 97 ∷ 255 ∷ 127 ∷ 0 ∷ 0 ∷ 255 ∷ 127 ∷ 0 ∷ 0 ∷ 255 ∷ 127 ∷ 0 ∷ 0 ∷ 0 ∷ 128 ∷ 0 ∷ 0 ∷ []) }
    ∷ []

-- the given of every row, and the due of every row
abbrev pub givens : List Row → List Shown
givens [] = []
givens (r ∷ rs) = r.given ∷ givens rs

abbrev pub dues : List Row → List Shown
dues [] = []
dues (r ∷ rs) = r.due ∷ dues rs

-- THE STATEMENT: row by row, what the definitions give is what is due
pub cases : givens table ≡ dues table
unfolding pick le16 le32 to_le16 to_le32 to_be16 to_be32 widened same over magic line_end ends_in_return good_line extended_byte closed_header time_line title_line
    good_version header_of opening_of dots dot_from kept_to_dot label_step sized old_part length_size length_value long_part new_part labelled_item station_item line_item
    section_item move_item error_item day_item span_item days_item day_of_seconds seconds_item two_seconds_item old_date_item v7_date_item old_middle_item old_low_item
    old_high_item new_date_item new_low_item new_high_item item_of date_of bad_dates iter iter_up layout layout_all header_layout sheet_of next ended read_step run items_of
    read_outcome read_buffer common length_codes part_codes label_codes kept_bytes same_date date_if fits_short all_short station_codes section_codes
cases = refl
