-- #109, worked: the words of a summary, questions, bringing it up to date, and the order of the refusals. One table under one statement.
-- Assumes nothing.
use Rattle.std.specs.Prelude.{Some, None}
use Prim.Native.Nat.{ℕ}
use mathlib.Core.Path.{◌≡◌, refl}
use mathlib.Core.Bool.{Bool, true, false}
use mathlib.Core.List.{List, [], ◌∷◌, ◌++◌}
use lib.ListN.{replicate}
use Rattle.format.specs.Bytes.{pick, be16, be32, to_be16, to_be32, over}
use Rattle.format.specs.Header.{line_end, ends_in_return}
use Rattle.format.specs.State.{Record, leg, station}
use Rattle.format.specs.Iterate.{iter, iter_up}
use Rattle.format.specs.Sheet.{sheet_version, undated_version, layout, layout_all, header_layout, sheet_of, good_date, date_from, leg_entry, station_entry, section_entry, undated_section_entry, body_entry, framed, entry_of, records_step, records_from, records_of, good_text, good_header, good_front, front_header, behind_front, version_result, version_of, sheet_result}
use Rattle.format.specs.Summary.{entrance, marks_in, marked, count_of, first_from, next_of, each, word_of, summary, bit, bit_at, marks_of, SummaryOutcome, takes, untaken, summary_outcome, summary_words, EntrancesOutcome, holds, unheld, rank_in, count_in, entrances_outcome, edited_marks, count_verdict, update_outcome, update_words}
use Rattle.format.specs.declared.Dated.TheVariants.{Undated}
use Rattle.format.proofs.Cases.{origin}

-- a row: what the definitions give, and what is due
record Row : Type 0 where
  pub given : List ℕ
  pub due : List ℕ

abbrev givens : List Row → List (List ℕ)
givens [] = []
givens (r ∷ rs) = r.given ∷ givens rs

abbrev dues : List Row → List (List ℕ)
dues [] = []
dues (r ∷ rs) = r.due ∷ dues rs

-- answers as numbers, 0 first where it is no refusal: the words; the count, and the next entrance or nothing
abbrev words_told : SummaryOutcome → List ℕ
words_told (takes n) = 0 ∷ n ∷ []
words_told (untaken n p) = n ∷ p ∷ []

abbrev told : EntrancesOutcome → List ℕ
told (holds n (Some r)) = 0 ∷ n ∷ r ∷ []
told (holds n None) = 0 ∷ n ∷ []
told (unheld n p) = n ∷ p ∷ []

-- 66 records, of which the first, the third, the 64th and the 66th are entrances
abbrev marks : List Bool
marks = (true ∷ false ∷ true ∷ []) ++ (replicate 60 false ++ (true ∷ false ∷ true ∷ []))

abbrev asked : ℕ → ℕ → List ℕ
asked a b = told (entrances_outcome (summary marks) 66 a b)

-- a leg with flag 0x04, a station without it and one with it
abbrev along : Record
along = leg (record { flags = 4; style = 0; date = Undated; from = origin; to = origin }) (97 ∷ [])

abbrev inner : Record
inner = station (record { flags = 2; place = origin }) (97 ∷ [])

abbrev mouth : Record
mouth = station (record { flags = 6; place = origin }) (98 ∷ [])

-- a sheet of them, with the title `A` and the time line `@0`
abbrev sheet_in : ℕ → List ℕ
sheet_in version = sheet_of version (record { extended = 0; title = 65 ∷ []; time = 64 ∷ 48 ∷ [] }) (along ∷ inner ∷ mouth ∷ [])

-- records to replace a run with: two; and one with a byte more
abbrev two : List ℕ
two = layout_all sheet_version (mouth ∷ along ∷ [])

abbrev flawed_second : List ℕ
flawed_second = layout_all sheet_version (mouth ∷ []) ++ (0 ∷ [])

abbrev table : List Row
table =
    -- "lowest bit first and spare bits 0, then the totals": those before each word
    record { given = summary marks; due = 0x8000000000000005 ∷ 2 ∷ 0 ∷ 3 ∷ [] }
    ∷ record { given = summary []; due = [] }
    -- "a up to but not including b"; the next "even past b"; "none" is an ordinary answer
    ∷ record { given = asked 1 64; due = 0 ∷ 2 ∷ 2 ∷ [] }
    ∷ record { given = asked 3 63; due = 0 ∷ 0 ∷ 63 ∷ [] }
    ∷ record { given = asked 0 66; due = 0 ∷ 4 ∷ 0 ∷ [] }
    ∷ record { given = asked 66 66; due = 0 ∷ 0 ∷ [] }
    -- "11 for a summary too short, then 15 when a is above b or either is above the record count"
    ∷ record { given = told (entrances_outcome (0 ∷ 0 ∷ 0 ∷ []) 66 9 3); due = 11 ∷ 4 ∷ [] }
    ∷ record { given = asked 9 3; due = 15 ∷ 66 ∷ [] }
    ∷ record { given = asked 0 67; due = 15 ∷ 66 ∷ [] }
    -- "entrances (stations with flag 0x04)"; what stands behind the summary stays; both versions of a sheet
    ∷ record { given = summary_words (sheet_in sheet_version) (7 ∷ 7 ∷ 7 ∷ []); due = 4 ∷ 0 ∷ 7 ∷ [] }
    ∷ record { given = summary_words (sheet_in undated_version) (7 ∷ 7 ∷ []); due = 4 ∷ 0 ∷ [] }
    ∷ record { given = words_told (summary_outcome (sheet_in sheet_version) 2); due = 0 ∷ 2 ∷ [] }
    -- "12, then 11 with the words needed"; a refusal leaves the words as they were
    ∷ record { given = words_told (summary_outcome (sheet_in sheet_version ++ (0 ∷ [])) 0); due = 12 ∷ 3 ∷ [] }
    ∷ record { given = words_told (summary_outcome (sheet_in sheet_version) 1); due = 11 ∷ 2 ∷ [] }
    ∷ record { given = summary_words (sheet_in sheet_version) (7 ∷ []); due = 7 ∷ [] }
    -- three records fewer: one word of marks, and the words behind the new summary stay
    ∷ record { given = update_words 66 1 3 [] (summary marks); due = 0x5000000000000001 ∷ 0 ∷ 0 ∷ 3 ∷ [] }
    -- two for none, before record 1; what the totals said is not asked
    ∷ record { given = update_words 3 1 0 two (4 ∷ 9 ∷ []); due = 18 ∷ 0 ∷ [] }
    -- "15 and 12 as for an edit, then 11 with the words that the longer of old and new needs"
    ∷ record { given = words_told (update_outcome 3 3 1 flawed_second 0); due = 15 ∷ 3 ∷ [] }
    ∷ record { given = words_told (update_outcome 3 3 0 flawed_second 0); due = 12 ∷ 1 ∷ [] }
    ∷ record { given = words_told (update_outcome 63 0 0 two 2); due = 11 ∷ 4 ∷ [] }
    ∷ record { given = words_told (update_outcome 66 0 3 [] 3); due = 11 ∷ 4 ∷ [] }
    ∷ record { given = words_told (update_outcome 66 0 3 [] 4); due = 0 ∷ 2 ∷ [] }
    ∷ []

pub summary_cases : givens table ≡ dues table
unfolding pick be16 be32 to_be16 to_be32 over line_end ends_in_return iter iter_up layout layout_all header_layout sheet_of good_date date_from leg_entry station_entry section_entry undated_section_entry body_entry framed entry_of records_step records_from records_of good_text good_header good_front front_header behind_front version_result version_of sheet_result entrance marks_in marked count_of first_from next_of each word_of summary bit bit_at marks_of summary_outcome summary_words rank_in count_in entrances_outcome edited_marks count_verdict update_outcome update_words
summary_cases = refl
