-- "Numbers for no", document 01: places and order of the refusals, limits at their last good value and one past it, and steps. One table
-- under one statement. Assumes nothing.
use Prim.Native.Nat.{ℕ, zero, suc, ◌+◌, ◌<◌}
use mathlib.Core.Path.{◌≡◌, refl}
use mathlib.Core.List.{List, [], ◌∷◌, ◌++◌}
use lib.ListN.{length, take, drop, replicate}
use borrow.Author.Tests.{lt-ltb}
use Rattle.format.specs.Bytes.{pick, le16, le32, be16, be32, to_le16, to_le32, to_be16, to_be32, widened, same}
use Rattle.format.specs.Header.{Header, shut, opened, magic, line_end, ends_in_return, good_line, extended_byte, closed_header, time_line, title_line}
use Rattle.format.specs.Header.{good_version, header_of, opening_of, file_limit}
use Rattle.format.specs.Label.{label_step}
use Rattle.format.specs.Items.{sized, length_size, length_value, long_part, new_part, labelled_item, station_item, line_item, move_item, day_item}
use Rattle.format.specs.Items.{span_item, days_item, v7_date_item, old_middle_item, old_low_item, new_low_item, new_high_item, item_of}
use Rattle.format.specs.State.{start, named, Record, date_of, bad_dates}
use Rattle.format.specs.Iterate.{iter, iter_up}
use Rattle.format.specs.Sheet.{sheet_version, layout, layout_all, header_layout, sheet_of, good_date, date_from, leg_entry, body_entry, framed, entry_of}
use Rattle.format.specs.Sheet.{records_step, records_from, records_of, good_text, good_header, good_front, front_header, behind_front, version_result}
use Rattle.format.specs.Sheet.{version_of, sheet_result}
use Rattle.std.specs.Prelude.{Ok, Err}
use Rattle.format.specs.Refusals.{accepted, refused, Verdict, Good, Refusal}
use Rattle.format.specs.Reading.{next, ended, read_step, run, items_of, read_outcome}
use Rattle.format.specs.Codes.{common, length_codes, part_codes, label_codes, same_date, same_point, style_if, date_if, move_if, line_codes, closing, header_codes}
use Rattle.format.specs.Writing.{v8, codes_all, after_all, encode_all, file_of, records_verdict, size_verdict, filed_outcome, written_outcome, write_outcome}
use Rattle.format.specs.Editing.{house_written, edited, house_verdict, run_verdict, edit_verdict, edit_result, edit_outcome}
use Rattle.format.specs.Stepping.{Stand, before, stopped, open_stand, wrote, ends, refuses, recorded, step_of, ran_out, stops, gathered}
use Rattle.format.specs.Times.{is_digit, all_digits, decimal_from, decimal, leap, month_lengths, month_length, month_days, year_days, day_number}
use Rattle.format.specs.Times.{real_date, at_form, text_marks, text_digits, text_day, text_clock, text_zone, text_form, text_seconds, seconds_of, stamp_of}
use Rattle.format.specs.declared.Dated.TheVariants.{Undated}
use Rattle.format.proofs.Cases.{Shown, opening, answer, step, stepping, stamp, no, Row, case1, case3, givens, dues}
use Rattle.format.proofs.Edges.{leg_of, goes_on}

-- ---- files

-- a file of a version, of its title line, its time line and what follows
abbrev pub headed : ℕ → List ℕ → List ℕ → List ℕ → List ℕ
headed version title time rest = magic ++ (118 ∷ (48 + version) ∷ 10 ∷ (title ++ (10 ∷ (time ++ (10 ∷ rest)))))

abbrev pub header : List ℕ → List ℕ → Header
header title time = record { extended = 0; title = title; time = time }

abbrev pub extended_header : List ℕ → List ℕ → Header
extended_header title time = record { extended = 1; title = title; time = time }

-- title `A`, time `@0`, as in case 1
abbrev pub case_header : Header
case_header = header (65 ∷ []) (64 ∷ 48 ∷ [])

-- `Sun,2002.03.17 hh:01:07 Z`, of the two digits of the hour and the bytes of the zone
abbrev pub sunday : ℕ → ℕ → List ℕ → List ℕ
sunday a b zone =
    83 ∷ 117 ∷ 110 ∷ 44 ∷ 50 ∷ 48 ∷ 48 ∷ 50 ∷ 46 ∷ 48 ∷ 51 ∷ 46 ∷ 49 ∷ 55 ∷ 32 ∷ a ∷ b ∷ 58 ∷ 48 ∷ 49 ∷ 58 ∷ 48 ∷ 55 ∷ 32 ∷ zone

-- our file of a normal leg along the origin: style, MOVE, LINE, the end (58 bytes)
abbrev pub one_leg : List ℕ
one_leg = case1 (0x00 ∷ 0x0f ∷ (replicate 12 0 ++ (0x60 ∷ (replicate 12 0 ++ (0x00 ∷ [])))))

-- a sheet of a normal leg and of one whose style is not said
abbrev pub unsaid_after : List ℕ
unsaid_after = sheet_of sheet_version case_header (leg_of 0 Undated ∷ leg_of 5 Undated ∷ [])

-- the same records, to be written as a file of so many bytes into so much room
abbrev pub filed : List Record → Verdict → ℕ → ℕ → Shown
filed rs v bytes room = answer (filed_outcome v8 (record { records = rs; verdict = v }) bytes room)

-- no record at all: the least that is refused with 12
abbrev pub bad_record : List ℕ
bad_record = 9 ∷ []

abbrev pub editing : List ℕ → ℕ → ℕ → List ℕ → ℕ → Shown
editing file first count new room = answer (edit_outcome file first count new room)

-- v8 items: station `a` at the origin (15 bytes; 17 in a sheet), and the end
abbrev pub one_station : List ℕ
one_station = case1 (0x80 ∷ 0x01 ∷ 97 ∷ (replicate 12 0 ++ (0x00 ∷ 0x00 ∷ [])))

abbrev pub station_record : List ℕ
station_record = 0 ∷ 15 ∷ 2 ∷ 0 ∷ (replicate 12 0 ++ (97 ∷ []))

-- where the reader of a file stands after some steps into so much room
abbrev pub stand_after : ℕ → List ℕ → ℕ → Stand
stand_after zero file room = open_stand file
stand_after (suc n) file room = (step_of (stand_after n file room) file room).stand

abbrev pub step_after : ℕ → List ℕ → ℕ → Shown
step_after n file room = step (step_of (stand_after n file room) file room)

abbrev pub table : List Row
table =
    -- 1: "first 21 bytes wrong or missing", at 0
    record { given = opening (opening_of []); due = opening (shut 1 0) }
    ∷ record { given = opening (opening_of (take 20 magic)); due = opening (shut 1 0) }
    -- 2: "next three not v3 to v8 and linefeed", at 21
    ∷ record { given = opening (opening_of magic); due = opening (shut 2 21) }
    ∷ record { given = opening (opening_of (headed 2 [] [] [])); due = opening (shut 2 21) }
    ∷ record { given = opening (opening_of (headed 9 [] [] [])); due = opening (shut 2 21) }
    ∷ record { given = opening (opening_of (headed 3 [] [] [])); due = opening (opened 3 26 (header [] [])) }
    -- 3: "title or time line unended, too long or with final carriage return", at "its first byte"
    ∷ record { given = opening (opening_of (magic ++ (118 ∷ 51 ∷ 10 ∷ 65 ∷ []))); due = opening (shut 3 24) }
    ∷ record { given = opening (opening_of (headed 3 (65 ∷ 13 ∷ []) [] [])); due = opening (shut 3 24) }
    ∷ record { given = opening (opening_of (headed 3 (replicate 4096 65) [] [])); due = opening (opened 3 4122 (header (replicate 4096 65) [])) }
    ∷ record { given = opening (opening_of (headed 3 (replicate 4097 65) [] [])); due = opening (shut 3 24) }
    ∷ record { given = opening (opening_of (magic ++ (118 ∷ 51 ∷ 10 ∷ 65 ∷ 10 ∷ 84 ∷ []))); due = opening (shut 3 26) }
    ∷ record { given = opening (opening_of (headed 3 (65 ∷ []) (84 ∷ 13 ∷ []) [])); due = opening (shut 3 26) }
    ∷ record { given = opening (opening_of (headed 3 (65 ∷ []) (replicate 64 84) [])); due = opening (opened 3 91 (header (65 ∷ []) (replicate 64 84))) }
    ∷ record { given = opening (opening_of (headed 3 (65 ∷ []) (replicate 65 84) [])); due = opening (shut 3 26) }
    -- "v8 byte missing": at the file's length; 4: its reserved bits, at the byte
    ∷ record { given = opening (opening_of (headed 8 (65 ∷ []) (84 ∷ []) [])); due = opening (shut 3 28) }
    ∷ record { given = opening (opening_of (headed 8 (65 ∷ []) (84 ∷ []) (0x80 ∷ []))); due = opening (opened 8 29 (extended_header (65 ∷ []) (84 ∷ []))) }
    ∷ record { given = opening (opening_of (headed 8 (65 ∷ []) (84 ∷ []) (0x01 ∷ []))); due = opening (shut 4 28) }
    ∷ record { given = opening (opening_of (headed 8 (65 ∷ []) (84 ∷ []) (0xc0 ∷ []))); due = opening (shut 4 28) }
    -- "1, 2, 3, the v8 byte": two faults at once
    ∷ record { given = opening (opening_of (0 ∷ headed 2 [] [] [])); due = opening (shut 1 0) }
    ∷ record { given = opening (opening_of (headed 2 (13 ∷ []) [] [])); due = opening (shut 2 21) }
    ∷ record { given = opening (opening_of (headed 8 (13 ∷ []) (13 ∷ []) [])); due = opening (shut 3 24) }
    ∷ record { given = opening (opening_of (headed 8 [] (13 ∷ []) [])); due = opening (shut 3 25) }
    -- "then items in order": the v8 byte before a reserved code; 4 and 5 at the item; "no end" at the file's length
    ∷ record { given = answer (read_outcome (headed 8 (65 ∷ []) (84 ∷ []) (0x01 ∷ 0x05 ∷ [])) 64); due = answer (refused 4 28) }
    ∷ record { given = answer (read_outcome (case1 (0x00 ∷ 0x05 ∷ [])) 64); due = answer (refused 4 31) }
    ∷ record { given = answer (read_outcome (case1 (0x00 ∷ 0x0f ∷ [])) 64); due = answer (refused 5 31) }
    ∷ record { given = answer (read_outcome (case1 []) 64); due = answer (refused 5 30) }
    -- "in an item 4, 5, 6, 7, 9, 8": LINE with a reserved flag and nothing more, one byte short of a label of which two are to go, ..
    ∷ record { given = goes_on (next 8 (0x48 ∷ []) start); due = no 4 }
    ∷ record { given = goes_on (next 8 (0x40 ∷ 0x20 ∷ replicate 11 0) start); due = no 5 }
    -- .. one byte to go from an empty label and 4,097 to come, 4,097 to come with no position, and no position
    ∷ record { given = goes_on (next 8 (0x40 ∷ 0x00 ∷ 0x01 ∷ 0xff ∷ (to_le32 4097 ++ replicate 4109 97)) start); due = no 6 }
    ∷ record { given = goes_on (next 8 (0x40 ∷ 0x00 ∷ 0x00 ∷ 0xff ∷ (to_le32 4097 ++ replicate 4109 97)) start); due = no 7 }
    ∷ record { given = goes_on (next 8 (0x60 ∷ replicate 12 0) start); due = no 8 }
    -- 5 before 9; "last day before first"
    ∷ record { given = goes_on (next 7 (0x21 ∷ 0xff ∷ 0xff ∷ []) start); due = no 5 }
    ∷ record { given = goes_on (next 7 (0x23 ∷ 2 ∷ 0 ∷ 1 ∷ 0 ∷ []) start); due = no 9 }
    -- "then 10, then 11": the length needed
    ∷ record { given = answer (read_outcome (case1 (0x00 ∷ 0x00 ∷ 0x00 ∷ [])) 0); due = answer (refused 10 32) }
    ∷ record { given = answer (read_outcome (case1 (0x00 ∷ 0x00 ∷ [])) 9); due = answer (refused 11 10) }
    -- writing, 12: "record, or 0 for version byte or header"; it comes before 13, which comes before 11
    ∷ record { given = answer (write_outcome v8 [] 0); due = answer (refused 12 0) }
    ∷ record { given = answer (write_outcome v8 (0 ∷ drop 1 unsaid_after) 0); due = answer (refused 12 0) }
    ∷ record { given = answer (write_outcome v8 (3 ∷ drop 1 unsaid_after) 0); due = answer (refused 12 0) }
    ∷ record { given = answer (write_outcome v8 (unsaid_after ++ bad_record) 0); due = answer (refused 12 2) }
    ∷ record { given = answer (write_outcome v8 unsaid_after 0); due = answer (refused 13 1) }
    -- "takes both versions": legs are alike in them
    ∷ record { given = answer (write_outcome v8 (1 ∷ drop 1 unsaid_after) 0); due = answer (refused 13 1) }
    ∷ record { given = answer (write_outcome v8 (sheet_of sheet_version case_header (leg_of 0 Undated ∷ [])) 57); due = answer (refused 11 58) }
    ∷ record { given = answer (write_outcome v8 (sheet_of sheet_version case_header (leg_of 0 Undated ∷ [])) 58); due = answer (accepted 58 1 8) }
    -- "12 (first bad record), 13, 16, 11", of a file one byte too long; and one of the greatest length
    ∷ record { given = filed (leg_of 0 Undated ∷ leg_of 5 Undated ∷ []) (Refusal 12 7) 16777217 0; due = answer (refused 12 7) }
    ∷ record { given = filed (leg_of 0 Undated ∷ leg_of 5 Undated ∷ []) Good 16777217 0; due = answer (refused 13 1) }
    ∷ record { given = filed [] Good 16777217 0; due = answer (refused 16 0) }
    ∷ record { given = filed [] Good 16777216 16777215; due = answer (refused 11 16777216) }
    ∷ record { given = filed [] Good 16777216 16777216; due = answer (accepted 16777216 0 8) }
    -- "Editing: the reader's refusals except 11", before a bad run and a bad replacement
    ∷ record { given = editing (case1 (0x00 ∷ [])) 1 1 bad_record 0; due = answer (refused 5 31) }
    ∷ record { given = editing (case1 (0x00 ∷ 0x00 ∷ 0x00 ∷ [])) 1 1 bad_record 0; due = answer (refused 10 32) }
    -- "then 14": a v7 file, and a v8 file with a style too many; "15": our file
    ∷ record { given = editing (headed 7 (65 ∷ []) (64 ∷ 48 ∷ []) (0x00 ∷ [])) 1 1 bad_record 0; due = answer (refused 14 0) }
    ∷ record { given = editing (case1 (0x01 ∷ 0x00 ∷ 0x00 ∷ [])) 1 1 bad_record 0; due = answer (refused 14 0) }
    ∷ record { given = editing one_leg 1 1 bad_record 0; due = answer (refused 15 1) }
    ∷ record { given = editing one_leg 2 0 bad_record 0; due = answer (refused 15 1) }
    -- "12 for the replacement (records only, no header; place within it)", "13" at the record in the edited sheet, "11"
    ∷ record { given = editing one_leg 0 1 bad_record 0; due = answer (refused 12 0) }
    ∷ record { given = editing one_leg 0 1 (header_layout case_header) 0; due = answer (refused 12 0) }
    ∷ record { given = editing one_leg 1 0 (layout sheet_version (leg_of 5 Undated) ++ bad_record) 0; due = answer (refused 12 1) }
    ∷ record { given = editing one_leg 1 0 (layout sheet_version (leg_of 5 Undated)) 0; due = answer (refused 13 1) }
    ∷ record { given = editing one_leg 1 0 [] 57; due = answer (refused 11 58) }
    ∷ record { given = editing one_leg 1 0 [] 58; due = answer (accepted 58 1 8) }
    ∷ record { given = editing one_leg 0 1 [] 58; due = answer (accepted 32 0 8) }
    -- a step into too little room: "On 11 it doesn't advance", and the next step has the record
    ∷ record { given = step_after 0 one_station 16; due = step (record { answer = refuses 11 17; stand = before 8 30 start; bytes = [] }) }
    ∷ record { given = step_after 1 one_station 16; due = step (record { answer = refuses 11 17; stand = before 8 30 start; bytes = [] }) }
    ∷ record {
      given = step_after 0 one_station 17;
      due = step (record { answer = wrote 17 0; stand = before 8 45 (named (97 ∷ []) start); bytes = station_record });
    }
    -- the end, 10 and another refusal come again
    ∷ record { given = step_after 2 one_station 17; due = step (record { answer = ends; stand = stopped Good; bytes = [] }) }
    ∷ record { given = step_after 3 one_station 17; due = step (record { answer = ends; stand = stopped Good; bytes = [] }) }
    ∷ record {
      given = step_after 1 (case1 (0x00 ∷ 0x00 ∷ 0x00 ∷ [])) 17;
      due = step (record { answer = refuses 10 32; stand = stopped (Refusal 10 32); bytes = [] });
    }
    ∷ record {
      given = step_after 2 (case1 (0x00 ∷ 0x00 ∷ 0x00 ∷ [])) 17;
      due = step (record { answer = refuses 10 32; stand = stopped (Refusal 10 32); bytes = [] });
    }
    ∷ record { given = step_after 1 (case1 (0x05 ∷ [])) 17; due = step (record { answer = refuses 4 30; stand = stopped (Refusal 4 30); bytes = [] }) }
    ∷ record { given = step_after 1 [] 17; due = step (record { answer = refuses 1 0; stand = stopped (Refusal 1 0); bytes = [] }) }
    -- three steps reach the end of that file, two do not
    ∷ record { given = stepping (gathered 3 (open_stand one_station) one_station 17); due = stepping (record { bytes = station_record; halt = stops Good }) }
    ∷ record { given = stepping (gathered 2 (open_stand one_station) one_station 17); due = stepping (record { bytes = station_record; halt = ran_out }) }
    -- 17: "time line not readable", at "its first byte", after the v8 byte; an hour is at most 23
    ∷ record { given = stamp (stamp_of (case1 [])); due = stamp (Ok (record { seconds = 0; place = 26; size = 2 })) }
    ∷ record { given = stamp (stamp_of (case3 [])); due = stamp (Err (record { number = 17; place = 26 })) }
    ∷ record { given = stamp (stamp_of (headed 8 (65 ∷ []) (84 ∷ []) (0x01 ∷ []))); due = stamp (Err (record { number = 4; place = 28 })) }
    ∷ record { given = stamp (stamp_of (headed 3 [] (sunday 50 51 (71 ∷ 77 ∷ 84 ∷ [])) [])); due = stamp (Ok (record { seconds = 1016406067; place = 25; size = 27 })) }
    ∷ record { given = stamp (stamp_of (headed 3 [] (sunday 50 52 (71 ∷ 77 ∷ 84 ∷ [])) [])); due = stamp (Err (record { number = 17; place = 25 })) }
    -- #101: "17 is widened, its place in the order stays": the zone `BST` gives it, after 4 for the v8 byte; `UTC` does not
    ∷ record { given = stamp (stamp_of (headed 3 [] (sunday 50 51 (85 ∷ 84 ∷ 67 ∷ [])) [])); due = stamp (Ok (record { seconds = 1016406067; place = 25; size = 27 })) }
    ∷ record { given = stamp (stamp_of (headed 3 [] (sunday 50 51 (66 ∷ 83 ∷ 84 ∷ [])) [])); due = stamp (Err (record { number = 17; place = 25 })) }
    ∷ record { given = stamp (stamp_of (headed 8 [] (sunday 50 51 (66 ∷ 83 ∷ 84 ∷ [])) (0x01 ∷ []))); due = stamp (Err (record { number = 4; place = 53 })) }
    ∷ []

pub orders : givens table ≡ dues table
unfolding pick le16 le32 be16 be32 to_le16 to_le32 to_be16 to_be32 widened same magic line_end ends_in_return good_line extended_byte closed_header time_line title_line
    good_version header_of opening_of label_step sized length_size length_value long_part new_part labelled_item station_item line_item move_item day_item span_item
    days_item v7_date_item old_middle_item old_low_item new_low_item new_high_item item_of date_of bad_dates iter iter_up layout layout_all header_layout sheet_of good_date
    date_from leg_entry body_entry framed entry_of records_step records_from records_of good_text good_header good_front front_header behind_front version_result version_of
    sheet_result next ended read_step run items_of read_outcome common length_codes part_codes label_codes same_date same_point style_if date_if move_if line_codes closing
    header_codes codes_all after_all encode_all file_of records_verdict size_verdict filed_outcome written_outcome write_outcome house_written edited house_verdict
    run_verdict edit_verdict edit_result edit_outcome open_stand recorded gathered is_digit all_digits decimal_from decimal leap month_lengths month_length month_days
    year_days day_number real_date at_form text_marks text_digits text_day text_clock text_zone text_form text_seconds seconds_of stamp_of
orders = refl

-- 16 comes before all that a header can be refused for
pub first_16 : (file : List ℕ) → file_limit < length file → opening_of file ≡ shut 16 0
unfolding opening_of pick
first_16 file h = rw (lt-ltb file_limit (length file) h)
