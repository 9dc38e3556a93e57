-- #110, worked: what the v7 writer makes of labels, dates, records and the end, and the order of its refusals. One table under one statement.
-- Assumes nothing.
use Prim.Native.Nat.{ℕ}
use mathlib.Core.Path.{◌≡◌, refl}
use mathlib.Core.List.{List, [], ◌∷◌, ◌++◌}
use lib.ListN.{replicate}
use Rattle.format.specs.Bytes.{pick, le16, le32, be16, be32, to_le16, to_le32, to_be16, to_be32, same}
use Rattle.format.specs.Header.{magic, line_end, ends_in_return}
use Rattle.format.specs.State.{start, named, moved, Record, station}
use Rattle.format.specs.Iterate.{iter, iter_up}
use Rattle.format.specs.Refusals.{accepted, refused}
use Rattle.format.specs.Sheet.{sheet_version, layout, layout_all, header_layout, sheet_of, good_date, date_from, leg_entry, station_entry, section_entry}
use Rattle.format.specs.Sheet.{body_entry, framed, entry_of, records_step, records_from, records_of, good_text, good_header, good_front, front_header}
use Rattle.format.specs.Sheet.{behind_front, version_result, version_of, sheet_result}
use Rattle.format.specs.Codes.{common, same_date, date_if, same_point, move_if, fits_short, all_short}
use Rattle.format.specs.V7Codes.{sixteens, trim_codes, shorten_codes, old_length_codes, added_codes, labelled_codes, v7_dates, v7_section_codes, v7_codes}
use Rattle.format.specs.V7Codes.{v7_closing, v7_header_codes}
use Rattle.format.specs.Writing.{v7, codes_all, after_all, encode_all, file_of, records_verdict, size_verdict, filed_outcome, written_outcome, write_outcome}
use Rattle.format.specs.declared.Dated.TheVariants.{Undated, Day, Range}
use Rattle.format.proofs.Cases.{Shown, written, answer, Row, origin, givens, dues}
use Rattle.format.proofs.Edges.{leg_of, section_of}

-- a station with flags, of a label, at the origin
abbrev station_of : ℕ → List ℕ → Record
station_of flags label = station (record { flags = flags; place = origin }) label

-- the codes of such a station after a label
abbrev station_after : List ℕ → List ℕ → Shown
station_after last label = written (v7_codes (named last start) (station_of 0 label))

-- what stands before the twelve bytes of its place
abbrev placed : List ℕ → Shown
placed codes = written (codes ++ replicate 12 0)

-- a sheet with the title `A` and the time line `@0`
abbrev sheet_with : ℕ → List Record → List ℕ
sheet_with extended rs = sheet_of sheet_version (record { extended = extended; title = 65 ∷ []; time = 64 ∷ 48 ∷ [] }) rs

abbrev writing : ℕ → List Record → ℕ → Shown
writing extended rs room = answer (write_outcome v7 (sheet_with extended rs) room)

-- a label of n bytes
abbrev long : ℕ → List ℕ
long n = replicate n 97

abbrev pub table : List Row
table =
    -- "keep the longest common start"; "A leg, station or section always has its length byte, even for 0"
    record { given = station_after [] []; due = placed (0x40 ∷ 0x00 ∷ []) }
    ∷ record { given = station_after (97 ∷ []) (97 ∷ []); due = placed (0x40 ∷ 0x00 ∷ []) }
    ∷ record { given = station_after [] (97 ∷ []); due = placed (0x40 ∷ 0x01 ∷ 97 ∷ []) }
    -- "when nothing is kept and the label is not empty, code 00"
    ∷ record { given = station_after (97 ∷ []) (98 ∷ []); due = placed (0x00 ∷ 0x40 ∷ 0x01 ∷ 98 ∷ []) }
    ∷ record { given = station_after (97 ∷ []) []; due = placed (0x00 ∷ 0x40 ∷ 0x00 ∷ []) }
    -- "shorten by codes 10-1f only, 16 bytes at a time and the rest last"
    ∷ record { given = station_after (long 2) (long 1); due = placed (0x10 ∷ 0x40 ∷ 0x00 ∷ []) }
    ∷ record { given = station_after (long 16) (long 1); due = placed (0x1e ∷ 0x40 ∷ 0x00 ∷ []) }
    ∷ record { given = station_after (long 17) (long 1); due = placed (0x1f ∷ 0x40 ∷ 0x00 ∷ []) }
    ∷ record { given = station_after (long 18) (long 1); due = placed (0x1f ∷ 0x10 ∷ 0x40 ∷ 0x00 ∷ []) }
    ∷ record { given = station_after (long 36) (long 1 ++ 98 ∷ []); due = placed (0x1f ∷ 0x1f ∷ 0x12 ∷ 0x40 ∷ 0x01 ∷ 98 ∷ []) }
    -- "a length takes its shortest form"
    ∷ record { given = written (old_length_codes 253); due = written (0xfd ∷ []) }
    ∷ record { given = written (old_length_codes 254); due = written (0xfe ∷ 0x00 ∷ 0x00 ∷ []) }
    ∷ record { given = written (old_length_codes 65789); due = written (0xfe ∷ 0xff ∷ 0xff ∷ []) }
    ∷ record { given = written (old_length_codes 65790); due = written (0xff ∷ 0xfe ∷ 0x00 ∷ 0x01 ∷ 0x00 ∷ []) }
    -- "Dates go by the v7 codes, range with span when it fits in 255", before a section too
    ∷ record { given = written (date_if v7_dates Undated (Day 258)); due = written (0x20 ∷ 0x02 ∷ 0x01 ∷ []) }
    ∷ record { given = written (date_if v7_dates Undated (Range 0 255)); due = written (0x21 ∷ 0x00 ∷ 0x00 ∷ 0xff ∷ []) }
    ∷ record { given = written (date_if v7_dates Undated (Range 0 256)); due = written (0x23 ∷ 0x00 ∷ 0x00 ∷ 0x00 ∷ 0x01 ∷ []) }
    ∷ record { given = written (date_if v7_dates (Day 1) Undated); due = written (0x24 ∷ []) }
    ∷ record { given = written (v7_codes start (section_of (Day 1))); due = written (0x20 ∷ 0x01 ∷ 0x00 ∷ 0x30 ∷ 0x01 ∷ 97 ∷ replicate 8 0) }
    -- "These codes stand straight before the item, after date and MOVE"; "without style codes"
    ∷ record {
      given = written (v7_codes (named (97 ∷ []) start) (leg_of 0 (Day 1)));
      due = written (0x20 ∷ 0x01 ∷ 0x00 ∷ 0x0f ∷ (replicate 12 0 ++ (0x00 ∷ 0x80 ∷ 0x00 ∷ replicate 12 0)));
    }
    ∷ record { given = written (v7_codes (moved origin start) (leg_of 5 Undated)); due = written (0x80 ∷ 0x00 ∷ replicate 12 0) }
    -- "To close, 00 if the label is not empty, then 00"
    ∷ record { given = written (v7_closing []); due = written (0x00 ∷ []) }
    ∷ record { given = written (v7_closing (97 ∷ [])); due = written (0x00 ∷ 0x00 ∷ []) }
    -- "12, then 23 at the first record v7 can't carry", "then 16, 11"
    ∷ record { given = answer (write_outcome v7 [] 0); due = answer (refused 12 0) }
    ∷ record { given = writing 1 [] 99; due = answer (refused 23 0) }
    ∷ record { given = writing 1 (leg_of 1 Undated ∷ []) 99; due = answer (refused 23 0) }
    ∷ record { given = writing 0 (station_of 0x1f [] ∷ station_of 0x20 [] ∷ []) 99; due = answer (refused 23 1) }
    ∷ record { given = writing 0 (station_of 0x40 [] ∷ []) 99; due = answer (refused 23 0) }
    ∷ record { given = writing 0 (leg_of 0 Undated ∷ leg_of 5 Undated ∷ leg_of 1 Undated ∷ []) 0; due = answer (refused 23 2) }
    ∷ record { given = writing 0 (leg_of 4 Undated ∷ []) 0; due = answer (refused 23 0) }
    -- "13 isn't used here, as normal and not said are written alike"
    ∷ record { given = writing 0 (leg_of 0 Undated ∷ leg_of 5 Undated ∷ []) 0; due = answer (refused 11 71) }
    ∷ record { given = writing 0 (leg_of 0 Undated ∷ leg_of 5 Undated ∷ []) 71; due = answer (accepted 71 2 7) }
    ∷ record { given = writing 0 [] 30; due = answer (accepted 30 0 7) }
    ∷ []

pub v7_cases : givens table ≡ dues table
unfolding pick le16 le32 be16 be32 to_le16 to_le32 to_be16 to_be32 same magic line_end ends_in_return iter iter_up layout layout_all header_layout sheet_of good_date
    date_from leg_entry station_entry section_entry body_entry framed entry_of records_step records_from records_of good_text good_header good_front front_header
    behind_front version_result version_of sheet_result common same_date date_if same_point move_if fits_short all_short sixteens trim_codes shorten_codes old_length_codes
    added_codes labelled_codes v7_section_codes v7_closing v7_header_codes codes_all after_all encode_all file_of records_verdict size_verdict filed_outcome written_outcome
    write_outcome
v7_cases = refl
