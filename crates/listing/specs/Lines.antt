-- The lines of the lister, document 01, "Cases at the edges", the lister: "Fields: ..", and what it prints for an input. Assumes nothing.
use Rattle.std.specs.Prelude.{ℕ, ◌+◌, ◌^◌, List, [], ◌∷◌, ◌++◌, length, ltb}
use Rattle.format.specs.Bytes.{pick}
use Rattle.format.specs.Header.{Header, Opening, shut, opened, opening_of}
use Rattle.format.specs.State.{Record, leg, station, section, error}
use Rattle.format.specs.Sheet.{front_header, sheet_result}
use Rattle.format.specs.Reading.{items_of, read_from}
use Rattle.format.specs.Refusals.{Outcome, accepted, refused, Verdict, Good, Refusal}
use Rattle.format.specs.declared.Point.{Point}
use Rattle.format.specs.declared.Dimensions.{Dimensions}
use Rattle.format.specs.declared.Traverse.{Traverse}
use Rattle.format.specs.declared.Leg.{Leg}
use Rattle.format.specs.declared.Station.{Station}
use Rattle.format.specs.declared.Section.{Section}
use Rattle.format.specs.declared.Dated.{Dated}
use Rattle.format.specs.declared.Dated.TheVariants.{Undated, Day, Range}
use Rattle.listing.specs.Text.{decimal_text, signed_text, text_of, line}

-- ---- the words

-- `version`, `title`, `time`, `extended`
unfoldable pub version_word : List ℕ
version_word = 118 ∷ 101 ∷ 114 ∷ 115 ∷ 105 ∷ 111 ∷ 110 ∷ []

unfoldable pub title_word : List ℕ
title_word = 116 ∷ 105 ∷ 116 ∷ 108 ∷ 101 ∷ []

unfoldable pub time_word : List ℕ
time_word = 116 ∷ 105 ∷ 109 ∷ 101 ∷ []

unfoldable pub extended_word : List ℕ
extended_word = 101 ∷ 120 ∷ 116 ∷ 101 ∷ 110 ∷ 100 ∷ 101 ∷ 100 ∷ []

-- `station`, `leg`, `xsect`, `error`
unfoldable pub station_word : List ℕ
station_word = 115 ∷ 116 ∷ 97 ∷ 116 ∷ 105 ∷ 111 ∷ 110 ∷ []

unfoldable pub leg_word : List ℕ
leg_word = 108 ∷ 101 ∷ 103 ∷ []

unfoldable pub section_word : List ℕ
section_word = 120 ∷ 115 ∷ 101 ∷ 99 ∷ 116 ∷ []

unfoldable pub error_word : List ℕ
error_word = 101 ∷ 114 ∷ 114 ∷ 111 ∷ 114 ∷ []

-- `end`, `refused`, `at`, `none`
unfoldable pub end_word : List ℕ
end_word = 101 ∷ 110 ∷ 100 ∷ []

unfoldable pub refused_word : List ℕ
refused_word = 114 ∷ 101 ∷ 102 ∷ 117 ∷ 115 ∷ 101 ∷ 100 ∷ []

unfoldable pub at_word : List ℕ
at_word = 97 ∷ 116 ∷ []

unfoldable pub none_word : List ℕ
none_word = 110 ∷ 111 ∷ 110 ∷ 101 ∷ []

-- ---- the lines

-- "date (`none`, day, or day-day)"
abbrev pub date_text : Dated → List ℕ
date_text Undated = none_word
date_text (Day d) = decimal_text d
date_text (Range d e) = decimal_text d ++ 45 ∷ decimal_text e

abbrev pub point_words : Point → List (List ℕ)
point_words p = signed_text p.x ∷ signed_text p.y ∷ signed_text p.z ∷ []

-- "L R U D"
abbrev pub dimension_words : Dimensions → List (List ℕ)
dimension_words d = signed_text d.left ∷ signed_text d.right ∷ signed_text d.up ∷ signed_text d.down ∷ []

-- "five numbers"
abbrev pub traverse_words : Traverse → List (List ℕ)
traverse_words t = signed_text t.legs ∷ signed_text t.total ∷ signed_text t.e ∷ signed_text t.h ∷ signed_text t.v ∷ []

-- "leg flags, style, date (`none`, day, or day-day), from, to, survey"
unfoldable pub leg_line : Leg → List ℕ → List ℕ
leg_line g label =
    line leg_word (decimal_text g.flags ∷ decimal_text g.style ∷ date_text g.date ∷ (point_words g.from ++ (point_words g.to ++ text_of label ∷ [])))

-- "station flags, x y z, name"
unfoldable pub station_line : Station → List ℕ → List ℕ
station_line s label = line station_word (decimal_text s.flags ∷ (point_words s.place ++ text_of label ∷ []))

-- "`xsect` last, L R U D, name"; "The lister prints the date after the last-in-passage number" (#106)
unfoldable pub section_line : Section → List ℕ → List ℕ
section_line s label = line section_word (decimal_text s.last ∷ date_text s.date ∷ (dimension_words s.size ++ text_of label ∷ []))

-- "`error` and five numbers"
unfoldable pub error_line : Traverse → List ℕ
error_line t = line error_word (traverse_words t)

abbrev pub record_line : Record → List ℕ
record_line (leg g label) = leg_line g label
record_line (station s label) = station_line s label
record_line (section s label) = section_line s label
record_line (error t) = error_line t

-- `version 8 title A time @0 extended 0`
unfoldable pub header_line : ℕ → Header → List ℕ
header_line version h =
    line version_word (decimal_text version ∷ title_word ∷ text_of h.title ∷ time_word ∷ text_of h.time ∷ extended_word ∷ decimal_text h.extended ∷ [])

-- `end 2`: "record count"
unfoldable pub end_line : ℕ → List ℕ
end_line records = line end_word (decimal_text records ∷ [])

-- "A refusal prints only `refused N at P`"
unfoldable pub refusal_line : ℕ → ℕ → List ℕ
refusal_line number place = line refused_word (decimal_text number ∷ at_word ∷ decimal_text place ∷ [])

-- "else prints `too long`"
unfoldable pub too_long_line : List ℕ
too_long_line = 116 ∷ 111 ∷ 111 ∷ 32 ∷ 108 ∷ 111 ∷ 110 ∷ 103 ∷ 10 ∷ []

-- ---- the listing of a sheet: a header and records, read from a file of that version

unfoldable pub record_lines : List Record → List ℕ
record_lines [] = []
record_lines (r ∷ rs) = record_line r ++ record_lines rs

-- the lines of the records behind the first n, and the last line
unfoldable pub rest_of : ℕ → List Record → List ℕ
rest_of n rs = record_lines rs ++ end_line (n + length rs)

unfoldable pub listing_of : ℕ → Header → List Record → List ℕ
listing_of version h rs = header_line version h ++ rest_of 0 rs

-- a sheet of so many bytes or more prints `too long`: the library's own limit, above any memory, so that no count of its lines' bytes wraps
abbrev pub listing_limit : ℕ
listing_limit = 2 ^ 55

-- the listing of a sheet's bytes on which the writer has that verdict: "A refusal prints only `refused N at P`"; 12, "sheet breaks the layout"
abbrev pub judged_listing : Verdict → ℕ → List ℕ → List ℕ
judged_listing Good version sheet = listing_of version (front_header sheet) (sheet_result sheet).records
judged_listing (Refusal n p) version sheet = refusal_line n p

unfoldable pub sheet_listing : ℕ → List ℕ → List ℕ
sheet_listing version sheet = pick (ltb (length sheet) listing_limit) (judged_listing (sheet_result sheet).verdict version sheet) too_long_line

-- ---- what the lister prints for an input

-- "The lister reads standard input, at most 16,384 bytes"
abbrev pub input_limit : ℕ
input_limit = 16384

-- "a sheet over 49,152 bytes gives 11"
abbrev pub lister_sheet_limit : ℕ
lister_sheet_limit = 49152

-- no text of the lister's is longer: a line takes at most four times the bytes of its record
abbrev pub lister_text_limit : ℕ
lister_text_limit = 262144

-- what is printed after an answer: "A refusal prints only `refused N at P`"
abbrev pub outcome_text : Outcome → List ℕ → List ℕ
outcome_text (refused n p) text = refusal_line n p
outcome_text (accepted bytes records version) text = text

abbrev pub listing_from : Opening → List ℕ → List ℕ
listing_from (shut n p) file = []
listing_from (opened version place h) file = listing_of version h (items_of version place file).records

-- "The lister reads standard input, at most 16,384 bytes, else prints `too long`"
unfoldable pub lister_text : List ℕ → List ℕ
lister_text input =
    pick (ltb input_limit (length input)) too_long_line (outcome_text (read_from (opening_of input) input lister_sheet_limit) (listing_from (opening_of input) input))
