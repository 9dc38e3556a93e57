-- How much of the name stayed (#107), as one table under one statement: the numbers that a reader answers with the records of a file, in
-- their order. Assumes nothing.
use Prim.Native.Nat.{ℕ, zero, suc, ◌*◌, ◌+◌}
use mathlib.Core.Path.{◌≡◌, refl}
use mathlib.Core.List.{List, [], ◌∷◌, ◌++◌}
use lib.ListN.{length, replicate}
use Rattle.format.specs.Bytes.{pick, le16, le32, to_be16, to_be32, widened, same}
use Rattle.format.specs.Header.{magic, line_end, ends_in_return, good_line, extended_byte, closed_header, time_line, title_line, good_version, header_of, opening_of}
use Rattle.format.specs.Label.{dots, dot_from, kept_to_dot, label_step}
use Rattle.format.specs.Items.{sized, old_part, length_size, length_value, long_part, new_part, labelled_item, station_item, line_item, section_item}
use Rattle.format.specs.Items.{move_item, error_item, old_low_item, old_high_item, new_low_item, new_high_item, item_of}
use Rattle.format.specs.Sheet.{layout}
use Rattle.format.specs.Reading.{next, ended}
use Rattle.format.specs.Stepping.{Stand, StepOutcome, wrote, nothing, ends, refuses, open_stand, recorded, step_of}
use Rattle.format.proofs.Cases.{Shown, written, Row, case1, case3, case4, givens, dues}

-- the numbers of a reader's records, in so many steps
abbrev pub with_number : StepOutcome → List ℕ → List ℕ
with_number (wrote bytes kept) rest = kept ∷ rest
with_number nothing rest = rest
with_number ends rest = []
with_number (refuses n p) rest = []

abbrev pub numbers_from : ℕ → Stand → List ℕ → List ℕ
numbers_from zero stand file = []
numbers_from (suc n) stand file = with_number (step_of stand file 64).answer (numbers_from n (step_of stand file 64).stand file)

abbrev pub numbers : List ℕ → Shown
numbers file = written (numbers_from 8 (open_stand file) file)

-- v3, LABEL: a station at the origin, of bytes to append
abbrev pub old_station : List ℕ → List ℕ
old_station added = 0x40 ∷ length added ∷ (added ++ replicate 12 0)

-- v8, LABEL and XSECT: D bytes to drop and bytes to append
abbrev pub new_station : ℕ → List ℕ → List ℕ
new_station d added = 0x80 ∷ (16 * d + length added) ∷ (added ++ replicate 12 0)

abbrev pub new_section : ℕ → List ℕ → List ℕ
new_section d added = 0x30 ∷ (16 * d + length added) ∷ (added ++ replicate 8 0)

abbrev pub table : List Row
table =
    -- the first item of a file: "or since the start"
    record { given = numbers (case3 (old_station (97 ∷ []))); due = written (0 ∷ []) }
    ∷ record { given = numbers (case1 (new_station 0 (97 ∷ []))); due = written (0 ∷ []) }
    -- v3: a label that only grows keeps the whole one before
    ∷ record { given = numbers (case3 (old_station (97 ∷ []) ++ old_station (98 ∷ []))); due = written (0 ∷ 1 ∷ []) }
    -- v3 with 00 between: none stayed, though the names are the same
    ∷ record { given = numbers (case3 (old_station (97 ∷ []) ++ (0x00 ∷ old_station (97 ∷ [])))); due = written (0 ∷ 0 ∷ []) }
    -- v3 with 01-0e and 10-1f in a row: `a.b.` and then `a.b`
    ∷ record { given = numbers (case3 (old_station case4 ++ (0x01 ∷ 0x10 ∷ old_station (46 ∷ [])))); due = written (0 ∷ 3 ∷ []) }
    ∷ record { given = numbers (case3 (old_station case4 ++ (0x10 ∷ 0x02 ∷ []))); due = written (0 ∷ []) }
    -- v8 with D = 0, with D in the midst, and with D = the whole label
    ∷ record { given = numbers (case1 (new_station 0 (97 ∷ 98 ∷ []) ++ new_station 0 (99 ∷ []))); due = written (0 ∷ 2 ∷ []) }
    ∷ record { given = numbers (case1 (new_station 0 (97 ∷ 98 ∷ []) ++ new_section 1 (99 ∷ []))); due = written (0 ∷ 1 ∷ []) }
    ∷ record { given = numbers (case1 (new_station 0 (97 ∷ 98 ∷ []) ++ new_station 2 (97 ∷ 98 ∷ []))); due = written (0 ∷ 0 ∷ []) }
    -- "A 0x20 leg carries one, with drop 0"
    ∷ record { given = numbers (case1 (new_station 0 (97 ∷ 98 ∷ []) ++ (0x0f ∷ (replicate 12 0 ++ (0x60 ∷ replicate 12 0))))); due = written (0 ∷ 2 ∷ []) }
    -- "0 for an error record", which begins no stretch
    ∷ record { given = numbers (case1 (new_station 0 (97 ∷ 98 ∷ []) ++ (0x1f ∷ (replicate 20 0 ++ new_station 1 (99 ∷ []))))); due = written (0 ∷ 0 ∷ 1 ∷ []) }
    ∷ []

pub outlines : givens table ≡ dues table
unfolding pick le16 le32 to_be16 to_be32 widened magic line_end ends_in_return good_line extended_byte closed_header time_line title_line good_version header_of opening_of
    dots dot_from kept_to_dot label_step sized old_part length_size length_value long_part new_part labelled_item station_item line_item section_item move_item error_item
    old_low_item old_high_item new_low_item new_high_item item_of layout next ended open_stand recorded same
outlines = refl
