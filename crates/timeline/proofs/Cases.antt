-- Case 13 of document 01, and the edges of the two forms, as one table under one statement about the definitions. Assumes nothing.
use Rattle.std.specs.Prelude.{Option, None, Some}
use Prim.Native.Nat.{ℕ}
use mathlib.Core.Path.{◌≡◌, refl}
use mathlib.Core.List.{List, [], ◌∷◌, ◌++◌}
use Rattle.format.specs.Bytes.{pick, same}
use Rattle.format.specs.Header.{magic, line_end, ends_in_return, good_line, extended_byte, closed_header, time_line, title_line, good_version, header_of, opening_of}
use Rattle.format.specs.Times.{is_digit, all_digits, decimal_from, decimal, leap, month_lengths, month_length, month_days, year_days, day_number, real_date, at_form, text_marks, text_digits, text_day, text_clock, text_zone, text_form, text_seconds, seconds_of, stamp_of, Comparison, first, second, equal, first_refused, second_refused, compare_of, later_part}
use Rattle.format.specs.declared.Handed.{Handed}

-- what a row of the table speaks of: the seconds of a time line, or the answer for two files with the part that is handed back
pub data Shown : Type 0 where
  time : Option ℕ → Shown
  later : Comparison → Handed → Shown

-- a row: what the definitions give, and what is due
pub record Row : Type 0 where
  pub given : Shown
  pub due : Shown

-- a v8 file with title `A` and a time line, and nothing after its header
abbrev pub with_line : List ℕ → List ℕ
with_line line = magic ++ (118 ∷ 56 ∷ 10 ∷ 65 ∷ 10 ∷ (line ++ (10 ∷ 0 ∷ [])))

abbrev pub compared : List ℕ → List ℕ → Shown
compared a b = later (compare_of (with_line a) (with_line b)) (later_part (with_line a) (with_line b))

abbrev pub read : List ℕ → Shown
read line = time (seconds_of line)

-- `Sun,2002.03.17 14:01:07 ` and a zone
abbrev pub sunday_in : List ℕ → List ℕ
sunday_in zone =
    83 ∷ 117 ∷ 110 ∷ 44 ∷ 50 ∷ 48 ∷ 48 ∷ 50 ∷ 46 ∷ 48 ∷ 51 ∷ 46 ∷ 49 ∷ 55 ∷ 32 ∷ 49 ∷ 52 ∷ 58 ∷ 48 ∷ 49 ∷ 58 ∷ 48 ∷ 55 ∷ 32 ∷ zone

-- with `GMT`, `UTC` and `BST`
abbrev pub sunday : List ℕ
sunday = sunday_in (71 ∷ 77 ∷ 84 ∷ [])

abbrev pub sunday_utc : List ℕ
sunday_utc = sunday_in (85 ∷ 84 ∷ 67 ∷ [])

abbrev pub sunday_bst : List ℕ
sunday_bst = sunday_in (66 ∷ 83 ∷ 84 ∷ [])

-- `@1016373667`, and a second later
abbrev pub sunday_at : List ℕ
sunday_at = 64 ∷ 49 ∷ 48 ∷ 49 ∷ 54 ∷ 51 ∷ 55 ∷ 51 ∷ 54 ∷ 54 ∷ 55 ∷ []

abbrev pub second_later : List ℕ
second_later = 64 ∷ 49 ∷ 48 ∷ 49 ∷ 54 ∷ 51 ∷ 55 ∷ 51 ∷ 54 ∷ 54 ∷ 56 ∷ []

abbrev pub table : List Row
table =
    -- 13. `Sun,2002.03.17 14:01:07 GMT` equals `@1016373667`
    record { given = compared sunday sunday_at; due = later equal (record { file = 0; place = 0; size = 0 }) }
    ∷ record { given = read sunday; due = time (Some 1016373667) }
    -- #101: "case 13's `BST` line now gives 17", at the line's first byte and with an empty part
    ∷ record { given = compared sunday_bst sunday_at; due = later (first_refused 17 26) (record { file = 0; place = 0; size = 0 }) }
    ∷ record { given = compared sunday sunday_bst; due = later (second_refused 17 26) (record { file = 0; place = 0; size = 0 }) }
    ∷ record { given = read sunday_bst; due = time None }
    -- #101: `UTC` is as good as `GMT`
    ∷ record { given = compared sunday_utc sunday; due = later equal (record { file = 0; place = 0; size = 0 }) }
    ∷ record { given = read sunday_utc; due = time (Some 1016373667) }
    -- #101: "exactly": `gmt`, `UTc`, `UMT`, `GM`, `GMT `, `UTC+1`, `Z` and no zone
    ∷ record { given = read (sunday_in (103 ∷ 109 ∷ 116 ∷ [])); due = time None }
    ∷ record { given = read (sunday_in (85 ∷ 84 ∷ 99 ∷ [])); due = time None }
    ∷ record { given = read (sunday_in (85 ∷ 77 ∷ 84 ∷ [])); due = time None }
    ∷ record { given = read (sunday_in (71 ∷ 77 ∷ [])); due = time None }
    ∷ record { given = read (sunday_in (71 ∷ 77 ∷ 84 ∷ 32 ∷ [])); due = time None }
    ∷ record { given = read (sunday_in (85 ∷ 84 ∷ 67 ∷ 43 ∷ 49 ∷ [])); due = time None }
    ∷ record { given = read (sunday_in (90 ∷ [])); due = time None }
    ∷ record { given = read (sunday_in []); due = time None }
    -- a second later: the line stands at 26, after the title line
    ∷ record { given = compared second_later sunday; due = later first (record { file = 1; place = 26; size = 11 }) }
    ∷ record { given = compared sunday_utc second_later; due = later second (record { file = 2; place = 26; size = 11 }) }
    -- the first and the last second of the text form: `Thu,1970.01.01 00:00:00 GMT`, `Thu,2099.12.31 23:59:59 GMT`
    ∷ record { given = read (84 ∷ 104 ∷ 117 ∷ 44 ∷ 49 ∷ 57 ∷ 55 ∷ 48 ∷ 46 ∷ 48 ∷ 49 ∷ 46 ∷ 48 ∷ 49 ∷ 32 ∷ 48 ∷ 48 ∷ 58 ∷ 48 ∷ 48 ∷ 58 ∷ 48 ∷ 48 ∷ 32 ∷ 71 ∷ 77 ∷ 84 ∷ []); due = time (Some 0) }
    ∷ record { given = read (84 ∷ 104 ∷ 117 ∷ 44 ∷ 50 ∷ 48 ∷ 57 ∷ 57 ∷ 46 ∷ 49 ∷ 50 ∷ 46 ∷ 51 ∷ 49 ∷ 32 ∷ 50 ∷ 51 ∷ 58 ∷ 53 ∷ 57 ∷ 58 ∷ 53 ∷ 57 ∷ 32 ∷ 71 ∷ 77 ∷ 84 ∷ []); due = time (Some 4102444799) }
    -- one before and one past: `Wed,1969.12.31 23:59:59 GMT`, `Fri,2100.01.01 00:00:00 GMT`
    ∷ record { given = read (87 ∷ 101 ∷ 100 ∷ 44 ∷ 49 ∷ 57 ∷ 54 ∷ 57 ∷ 46 ∷ 49 ∷ 50 ∷ 46 ∷ 51 ∷ 49 ∷ 32 ∷ 50 ∷ 51 ∷ 58 ∷ 53 ∷ 57 ∷ 58 ∷ 53 ∷ 57 ∷ 32 ∷ 71 ∷ 77 ∷ 84 ∷ []); due = time None }
    ∷ record { given = read (70 ∷ 114 ∷ 105 ∷ 44 ∷ 50 ∷ 49 ∷ 48 ∷ 48 ∷ 46 ∷ 48 ∷ 49 ∷ 46 ∷ 48 ∷ 49 ∷ 32 ∷ 48 ∷ 48 ∷ 58 ∷ 48 ∷ 48 ∷ 58 ∷ 48 ∷ 48 ∷ 32 ∷ 71 ∷ 77 ∷ 84 ∷ []); due = time None }
    -- 29 February of 2000, of 2001 and of 2100
    ∷ record { given = read (84 ∷ 117 ∷ 101 ∷ 44 ∷ 50 ∷ 48 ∷ 48 ∷ 48 ∷ 46 ∷ 48 ∷ 50 ∷ 46 ∷ 50 ∷ 57 ∷ 32 ∷ 48 ∷ 48 ∷ 58 ∷ 48 ∷ 48 ∷ 58 ∷ 48 ∷ 48 ∷ 32 ∷ 71 ∷ 77 ∷ 84 ∷ []); due = time (Some 951782400) }
    ∷ record { given = read (84 ∷ 104 ∷ 117 ∷ 44 ∷ 50 ∷ 48 ∷ 48 ∷ 49 ∷ 46 ∷ 48 ∷ 50 ∷ 46 ∷ 50 ∷ 57 ∷ 32 ∷ 48 ∷ 48 ∷ 58 ∷ 48 ∷ 48 ∷ 58 ∷ 48 ∷ 48 ∷ 32 ∷ 71 ∷ 77 ∷ 84 ∷ []); due = time None }
    ∷ record { given = read (77 ∷ 111 ∷ 110 ∷ 44 ∷ 50 ∷ 49 ∷ 48 ∷ 48 ∷ 46 ∷ 48 ∷ 50 ∷ 46 ∷ 50 ∷ 57 ∷ 32 ∷ 48 ∷ 48 ∷ 58 ∷ 48 ∷ 48 ∷ 58 ∷ 48 ∷ 48 ∷ 32 ∷ 71 ∷ 77 ∷ 84 ∷ []); due = time None }
    -- hours 24
    ∷ record { given = read (84 ∷ 117 ∷ 101 ∷ 44 ∷ 50 ∷ 48 ∷ 48 ∷ 48 ∷ 46 ∷ 48 ∷ 50 ∷ 46 ∷ 50 ∷ 57 ∷ 32 ∷ 50 ∷ 52 ∷ 58 ∷ 48 ∷ 48 ∷ 58 ∷ 48 ∷ 48 ∷ 32 ∷ 71 ∷ 77 ∷ 84 ∷ []); due = time None }
    -- `@4294967295`, `@4294967296`, `@` and 11 digits, `@` alone
    ∷ record { given = read (64 ∷ 52 ∷ 50 ∷ 57 ∷ 52 ∷ 57 ∷ 54 ∷ 55 ∷ 50 ∷ 57 ∷ 53 ∷ []); due = time (Some 4294967295) }
    ∷ record { given = read (64 ∷ 52 ∷ 50 ∷ 57 ∷ 52 ∷ 57 ∷ 54 ∷ 55 ∷ 50 ∷ 57 ∷ 54 ∷ []); due = time None }
    ∷ record { given = read (64 ∷ 48 ∷ 48 ∷ 48 ∷ 48 ∷ 48 ∷ 48 ∷ 48 ∷ 48 ∷ 48 ∷ 48 ∷ 49 ∷ []); due = time None }
    ∷ record { given = read (64 ∷ []); due = time None }
    ∷ []

-- the given of every row, and the due of every row
abbrev pub givens : List Row → List Shown
givens [] = []
givens (r ∷ rs) = r.given ∷ givens rs

abbrev pub dues : List Row → List Shown
dues [] = []
dues (r ∷ rs) = r.due ∷ dues rs

-- THE STATEMENT: row by row, what the definitions give is what is due
pub cases : givens table ≡ dues table
unfolding pick same magic line_end ends_in_return good_line extended_byte closed_header time_line title_line good_version header_of opening_of is_digit all_digits decimal_from decimal leap month_lengths month_length month_days year_days day_number real_date at_form text_marks text_digits text_day text_clock text_zone text_form text_seconds seconds_of stamp_of compare_of later_part
cases = refl
