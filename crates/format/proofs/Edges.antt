-- "Slips a good programmer makes", document 01: what the definitions give where each slip would show; and which codes and flags each version
-- has. One table under one statement. Assumes nothing.
use Prim.Native.Nat.{ℕ, zero, suc, ◌+◌}
use mathlib.Core.Path.{◌≡◌, refl}
use mathlib.Core.List.{List, [], ◌∷◌, ◌++◌}
use lib.ListN.{get_or, take, replicate}
use lib.Dec.{eqb}
use Rattle.format.specs.Bytes.{pick, le16, le32, to_le16, to_le32, to_be16, to_be32, widened, same}
use Rattle.format.specs.Label.{dots, dot_from, kept_to_dot, label_step}
use Rattle.format.specs.Items.{Decoded, faulty, whole, sized, old_part, length_size, length_value, long_part, new_part, labelled_item, station_item}
use Rattle.format.specs.Items.{line_item, section_item, move_item, error_item, day_item, span_item, days_item, day_of_seconds, seconds_item}
use Rattle.format.specs.Items.{two_seconds_item, old_date_item, v7_date_item, old_middle_item, old_low_item, old_high_item, new_date_item, new_low_item}
use Rattle.format.specs.Items.{new_high_item, item_of}
use Rattle.format.specs.State.{State, start, named, styled, dated_by, moved, Record, leg, station, section, error, Next, bad, end, on, made}
use Rattle.format.specs.State.{date_of, bad_dates}
use Rattle.format.specs.Sheet.{sheet_version, undated_version, layout}
use Rattle.format.specs.Reading.{next}
use Rattle.format.specs.Codes.{common, length_codes, part_codes, label_codes, kept_bytes, same_date, same_point, style_if, date_if, move_if, line_codes}
use Rattle.format.specs.Codes.{fits_short, all_short, station_codes, section_codes, codes, after, closing}
use Rattle.format.specs.declared.Dated.{Dated}
use Rattle.format.specs.declared.Dated.TheVariants.{Undated, Day, Range}
use Rattle.format.proofs.Cases.{Shown, label, date, no, written, other, Row, date_after, from_label, date_of_item, origin, givens, dues}

-- what an item of v8 comes to in a state, as numbers: 0 for the end, 1 where it goes on; or a refusal
abbrev pub goes_on : Next → Shown
goes_on (bad k) = no k
goes_on end = written (0 ∷ [])
goes_on (on n st) = written (1 ∷ [])
goes_on (made n r st) = written (1 ∷ [])

-- the dimensions of a section that an item makes
abbrev pub dimensions_made : Next → Shown
dimensions_made (bad k) = no k
dimensions_made end = other
dimensions_made (on n st) = other
dimensions_made (made n (leg g l) st) = other
dimensions_made (made n (station s l) st) = other
dimensions_made (made n (section s l) st) = let d = s.size in written (d.left ∷ d.right ∷ d.up ∷ d.down ∷ [])
dimensions_made (made n (error t) st) = other

-- the date of a section that an item makes
abbrev pub section_date : Next → Shown
section_date (bad k) = no k
section_date end = other
section_date (on n st) = other
section_date (made n (leg g l) st) = other
section_date (made n (station s l) st) = other
section_date (made n (section s l) st) = date s.date
section_date (made n (error t) st) = other

-- a section `a` of dimensions 0, measured on a date
abbrev pub section_of : Dated → Record
section_of when = section (record { last = 0; date = when; size = record { left = 0; right = 0; up = 0; down = 0 } }) (97 ∷ [])

-- XSECT of that section, from an empty label
abbrev pub section_itself : List ℕ
section_itself = 0x30 ∷ 0x01 ∷ 97 ∷ replicate 8 0

-- a leg of the empty label along the origin
abbrev pub leg_of : ℕ → Dated → Record
leg_of style when = leg (record { flags = 0; style = style; date = when; from = origin; to = origin }) []

-- at the origin, with a style
abbrev pub standing : ℕ → State
standing style = moved origin (styled style start)

-- the codes, n of them from c on, that are reserved in a version
abbrev pub if_reserved : Decoded → ℕ → List ℕ → List ℕ
if_reserved (faulty k) c rest = pick (eqb k 4) (c ∷ rest) rest
if_reserved (whole n it) c rest = rest

abbrev pub reserved_from : ℕ → ℕ → ℕ → List ℕ
reserved_from version c zero = []
reserved_from version c (suc n) = if_reserved (item_of version (c ∷ replicate 20 0)) c (reserved_from version (c + 1) n)

abbrev pub reserved_codes : ℕ → Shown
reserved_codes version = written (reserved_from version 0 256)

-- the numbers, n of them from c on
abbrev pub up_from : ℕ → ℕ → List ℕ
up_from c zero = []
up_from c (suc n) = c ∷ up_from (c + 1) n

-- the record that an item makes, as a sheet has it; the item finds the origin as position
abbrev pub record_made : Next → Shown
record_made (bad k) = no k
record_made end = other
record_made (on n st) = other
record_made (made n r st) = written (layout sheet_version r)

abbrev pub record_of_item : ℕ → List ℕ → Shown
record_of_item version item = record_made (next version item (moved origin start))

-- the second byte of a record in a sheet, without its length: flags, or "last 0/1"
abbrev pub second_byte : Next → ℕ
second_byte (bad k) = 1000 + k
second_byte end = 1000
second_byte (on n st) = 1000
second_byte (made n r st) = get_or (layout sheet_version r) 3 0

abbrev pub second_bytes : ℕ → List ℕ → List ℕ
second_bytes version [] = []
second_bytes version (c ∷ cs) = second_byte (next version (c ∷ replicate 20 0) (moved origin start)) ∷ second_bytes version cs

-- five numbers of an ERROR, and its record
abbrev pub error_numbers : List ℕ
error_numbers = 1 ∷ 2 ∷ 3 ∷ 4 ∷ 5 ∷ 0 ∷ 0 ∷ 0 ∷ 6 ∷ 0 ∷ 0 ∷ 0 ∷ 7 ∷ 0 ∷ 0 ∷ 0 ∷ 8 ∷ 0 ∷ 0 ∷ 0 ∷ []

abbrev pub error_record : List ℕ
error_record = 0 ∷ 21 ∷ 4 ∷ 4 ∷ 3 ∷ 2 ∷ 1 ∷ 0 ∷ 0 ∷ 0 ∷ 5 ∷ 0 ∷ 0 ∷ 0 ∷ 6 ∷ 0 ∷ 0 ∷ 0 ∷ 7 ∷ 0 ∷ 0 ∷ 0 ∷ 8 ∷ []

abbrev pub table : List Row
table =
    -- "Taking the first v8 00 as the end, when the style is still not said"
    record { given = goes_on (next 8 (0 ∷ []) start); due = written (1 ∷ []) }
    ∷ record { given = goes_on (next 8 (0 ∷ []) (styled 0 start)); due = written (0 ∷ []) }
    -- "Searching dots in the 16 dropped bytes": `a.` and then 15 bytes with a dot at their front; "or removing the found dot"
    ∷ record { given = from_label 3 (97 ∷ 46 ∷ 98 ∷ 46 ∷ replicate 15 99) (1 ∷ []); due = label (97 ∷ 46 ∷ []) }
    -- "Judging 8 before 6 and 7": case 12; "or 7 before the item is known to be whole": 65535 bytes that are not there
    ∷ record { given = goes_on (next 8 (64 ∷ 32 ∷ replicate 12 0) start); due = no 6 }
    ∷ record { given = goes_on (next 8 (64 ∷ 0 ∷ 0 ∷ 255 ∷ to_le32 65535) start); due = no 5 }
    ∷ record { given = goes_on (next 3 (128 ∷ 255 ∷ (to_le32 4097 ++ (replicate 4097 97 ++ replicate 12 0))) start); due = no 7 }
    -- "Reading -1 as omitted in i16 but as a number in i32": -1 is the same number in both
    ∷ record { given = dimensions_made (next 8 (48 ∷ 0 ∷ 0 ∷ 0 ∷ replicate 8 255) start); due = written (replicate 4 4294967295) }
    ∷ record { given = dimensions_made (next 8 (50 ∷ 0 ∷ 0 ∷ 0 ∷ replicate 16 255) start); due = written (replicate 4 4294967295) }
    -- "Writing D or A = 255 as the single byte ff"
    ∷ record { given = written (part_codes 255 254); due = written (0 ∷ 255 ∷ 255 ∷ 0 ∷ 0 ∷ 0 ∷ 254 ∷ []) }
    -- "Writing style normal when it is normal already, which ends the file"
    ∷ record { given = written (codes (standing 0) (leg_of 0 Undated)); due = written (96 ∷ replicate 12 0) }
    ∷ record { given = written (codes (standing 1) (leg_of 0 Undated)); due = written (0 ∷ 96 ∷ replicate 12 0) }
    ∷ record { given = written (closing 0); due = written (0 ∷ []) }
    -- an equal label of a station drops and appends its last byte; an empty one writes 00 00 00
    ∷ record {
      given = written (codes (named (97 ∷ 98 ∷ []) start) (station (record { flags = 0; place = origin }) (97 ∷ 98 ∷ [])));
      due = written (128 ∷ 17 ∷ 98 ∷ replicate 12 0);
    }
    ∷ record { given = written (codes start (station (record { flags = 0; place = origin }) [])); due = written (128 ∷ 0 ∷ 0 ∷ 0 ∷ replicate 12 0) }
    -- a range of 255 days has a span, one of 256 days two days
    ∷ record { given = written (take 4 (codes (standing 5) (leg_of 5 (Range 1 256)))); due = written (18 ∷ 1 ∷ 0 ∷ 255 ∷ []) }
    ∷ record { given = written (take 5 (codes (standing 5) (leg_of 5 (Range 1 257)))); due = written (19 ∷ 1 ∷ 0 ∷ 1 ∷ 1 ∷ []) }
    -- "Survex puts the date in force on sections as well" (#106), in each version that has XSECT
    ∷ record { given = section_date (next 5 (0x30 ∷ replicate 9 0) (dated_by (Day 7) start)); due = date (Day 7) }
    ∷ record { given = section_date (next 6 (0x31 ∷ replicate 9 0) (dated_by (Range 7 9) start)); due = date (Range 7 9) }
    ∷ record { given = section_date (next 7 (0x32 ∷ replicate 17 0) (dated_by (Day 7) start)); due = date (Day 7) }
    ∷ record { given = section_date (next 8 (0x33 ∷ 0x00 ∷ 0 ∷ 0 ∷ replicate 16 0) (dated_by (Range 7 9) start)); due = date (Range 7 9) }
    ∷ record { given = section_date (next 8 section_itself start); due = date Undated }
    -- "Writing puts a date item before a section where it differs": none, no date, a day, a span, two days
    ∷ record { given = written (codes (dated_by (Day 7) start) (section_of (Day 7))); due = written section_itself }
    ∷ record { given = written (codes (dated_by (Day 7) start) (section_of Undated)); due = written (0x10 ∷ section_itself) }
    ∷ record { given = written (codes start (section_of (Day 7))); due = written (0x11 ∷ 7 ∷ 0 ∷ section_itself) }
    ∷ record { given = written (codes (dated_by (Day 7) start) (section_of (Range 7 262))); due = written (0x12 ∷ 7 ∷ 0 ∷ 255 ∷ section_itself) }
    ∷ record { given = written (codes (dated_by (Day 7) start) (section_of (Range 7 263))); due = written (0x13 ∷ 7 ∷ 0 ∷ 7 ∷ 1 ∷ section_itself) }
    -- and the date is then in force for what follows
    ∷ record { given = date (after start (section_of (Day 7))).setting.date; due = date (Day 7) }
    -- the section's bytes in a sheet of version 2 and of version 1
    ∷ record {
      given = written (layout sheet_version (section_of (Range 7 263)));
      due = written (0 ∷ 24 ∷ 3 ∷ 0 ∷ 2 ∷ 0 ∷ 7 ∷ 1 ∷ 7 ∷ (replicate 16 0 ++ 97 ∷ []));
    }
    ∷ record { given = written (layout undated_version (section_of Undated)); due = written (0 ∷ 19 ∷ 3 ∷ 0 ∷ (replicate 16 0 ++ 97 ∷ [])) }
    -- the reserved codes of each version: dates come with v4, XSECT with v5, ERROR with v6, two more dates with v7
    ∷ record { given = reserved_codes 3; due = written (up_from 0x20 32 ++ (up_from 0x60 32 ++ up_from 0x88 120)) }
    ∷ record { given = reserved_codes 4; due = written (up_from 0x22 30 ++ (up_from 0x60 32 ++ up_from 0x88 120)) }
    ∷ record { given = reserved_codes 5; due = written (up_from 0x22 14 ++ (up_from 0x34 12 ++ (up_from 0x60 32 ++ up_from 0x88 120))) }
    ∷ record { given = reserved_codes 6; due = written (up_from 0x23 13 ++ (up_from 0x34 12 ++ (up_from 0x60 32 ++ up_from 0x88 120))) }
    ∷ record { given = reserved_codes 7; due = written (up_from 0x25 11 ++ (up_from 0x34 12 ++ (up_from 0x60 32 ++ up_from 0x88 120))) }
    ∷ record {
      given = reserved_codes 8;
      due = written
          (up_from 0x05 10 ++ (up_from 0x14 11 ++ (up_from 0x20 16 ++ (up_from 0x34 12 ++ (up_from 0x48 24 ++ up_from 0x68 24)))));
    }
    -- flags: 0x1f of a LABEL and 0x07 of a LINE in v3 to v7, the first and the last code of each
    ∷ record { given = written (second_bytes 3 (0x40 ∷ 0x5f ∷ 0x80 ∷ 0x87 ∷ [])); due = written (0x00 ∷ 0x1f ∷ 0x00 ∷ 0x07 ∷ []) }
    ∷ record { given = written (second_bytes 4 (0x40 ∷ 0x5f ∷ 0x80 ∷ 0x87 ∷ [])); due = written (0x00 ∷ 0x1f ∷ 0x00 ∷ 0x07 ∷ []) }
    ∷ record { given = written (second_bytes 5 (0x40 ∷ 0x5f ∷ 0x80 ∷ 0x87 ∷ [])); due = written (0x00 ∷ 0x1f ∷ 0x00 ∷ 0x07 ∷ []) }
    ∷ record { given = written (second_bytes 6 (0x40 ∷ 0x5f ∷ 0x80 ∷ 0x87 ∷ [])); due = written (0x00 ∷ 0x1f ∷ 0x00 ∷ 0x07 ∷ []) }
    ∷ record { given = written (second_bytes 7 (0x40 ∷ 0x5f ∷ 0x80 ∷ 0x87 ∷ [])); due = written (0x00 ∷ 0x1f ∷ 0x00 ∷ 0x07 ∷ []) }
    -- of XSECT "bit 0: last in passage", from v5 on
    ∷ record { given = written (second_bytes 5 (0x30 ∷ 0x31 ∷ 0x32 ∷ 0x33 ∷ [])); due = written (0 ∷ 1 ∷ 0 ∷ 1 ∷ []) }
    ∷ record { given = written (second_bytes 6 (0x30 ∷ 0x31 ∷ 0x32 ∷ 0x33 ∷ [])); due = written (0 ∷ 1 ∷ 0 ∷ 1 ∷ []) }
    ∷ record { given = written (second_bytes 7 (0x30 ∷ 0x31 ∷ 0x32 ∷ 0x33 ∷ [])); due = written (0 ∷ 1 ∷ 0 ∷ 1 ∷ []) }
    ∷ record { given = written (second_bytes 8 (0x30 ∷ 0x31 ∷ 0x32 ∷ 0x33 ∷ [])); due = written (0 ∷ 1 ∷ 0 ∷ 1 ∷ []) }
    -- v8: LINE 40-47, with 0x20 60-67; LABEL 80-ff, of which a0 is case 11's
    ∷ record { given = written (second_bytes 8 (0x40 ∷ 0x47 ∷ 0x60 ∷ 0x67 ∷ [])); due = written (0x00 ∷ 0x07 ∷ 0x00 ∷ 0x07 ∷ []) }
    ∷ record { given = written (second_bytes 8 (0x80 ∷ 0xa0 ∷ 0xff ∷ [])); due = written (0x00 ∷ 0x20 ∷ 0x7f ∷ []) }
    -- "u32 seconds since 1970" in v4 and v5 (v6: case 7)
    ∷ record { given = date_of_item 4 (0x20 ∷ to_le32 86400); due = date (Day 25568) }
    ∷ record { given = date_of_item 4 (0x21 ∷ (to_le32 0 ++ to_le32 86400)); due = date (Range 25567 25568) }
    ∷ record { given = date_of_item 5 (0x20 ∷ to_le32 86400); due = date (Day 25568) }
    ∷ record { given = date_of_item 5 (0x21 ∷ (to_le32 0 ++ to_le32 86400)); due = date (Range 25567 25568) }
    ∷ record { given = date_of_item 6 (0x21 ∷ (to_le32 0 ++ to_le32 86400)); due = date (Range 25567 25568) }
    -- "u16 day / day and u8 span / two days / none" in v7, and v8's "10 no date; 11 day; 12 day and span; 13 two days"
    ∷ record { given = date_of_item 7 (0x20 ∷ 0x02 ∷ 0x01 ∷ []); due = date (Day 258) }
    ∷ record { given = date_of_item 7 (0x21 ∷ 0x02 ∷ 0x01 ∷ 0x03 ∷ []); due = date (Range 258 261) }
    ∷ record { given = date_of_item 7 (0x23 ∷ 0x02 ∷ 0x01 ∷ 0x02 ∷ 0x02 ∷ []); due = date (Range 258 514) }
    ∷ record { given = date_after (next 7 (0x24 ∷ []) (dated_by (Day 1) start)); due = date Undated }
    ∷ record { given = date_after (next 8 (0x10 ∷ []) (dated_by (Day 1) start)); due = date Undated }
    ∷ record { given = date_of_item 8 (0x11 ∷ 0x02 ∷ 0x01 ∷ []); due = date (Day 258) }
    ∷ record { given = date_of_item 8 (0x12 ∷ 0x02 ∷ 0x01 ∷ 0x03 ∷ []); due = date (Range 258 261) }
    ∷ record { given = date_of_item 8 (0x13 ∷ 0x02 ∷ 0x01 ∷ 0x02 ∷ 0x02 ∷ []); due = date (Range 258 514) }
    -- ERROR: 22 in v6 and v7, 1f in v8
    ∷ record { given = record_of_item 6 (0x22 ∷ error_numbers); due = written error_record }
    ∷ record { given = record_of_item 7 (0x22 ∷ error_numbers); due = written error_record }
    ∷ record { given = record_of_item 8 (0x1f ∷ error_numbers); due = written error_record }
    ∷ []

pub edges : givens table ≡ dues table
unfolding pick le16 le32 to_le16 to_le32 to_be16 to_be32 widened same dots dot_from kept_to_dot label_step sized old_part length_size length_value long_part new_part
    labelled_item station_item line_item section_item move_item error_item day_item span_item days_item day_of_seconds seconds_item two_seconds_item old_date_item v7_date_item
    old_middle_item old_low_item old_high_item new_date_item new_low_item new_high_item item_of date_of bad_dates layout next common length_codes part_codes label_codes
    kept_bytes same_date same_point style_if date_if move_if line_codes fits_short all_short station_codes section_codes closing
edges = refl
