-- Time lines, document 01, "Which is later", with refusal 17. Assumes nothing.
use Rattle.std.specs.Prelude.{ℕ, zero, suc, ◌+◌, ◌-◌, ◌*◌, ◌%◌, List, [], ◌∷◌, Bool, true, ◌&&◌, ◌||◌, length, get_or, take, drop, eqb, ltb, leb, Option, Some, None, Result, Ok, Err}
use Rattle.format.specs.Bytes.{pick, same}
use Rattle.format.specs.Header.{Opening, shut, opened, opening_of}
use Rattle.format.specs.declared.Refusal.{Refusal}
use Rattle.format.specs.declared.Stamp.{Stamp}
use Rattle.format.specs.declared.Handed.{Handed}

-- ---- digits

unfoldable pub is_digit : ℕ → Bool
is_digit b = leb 48 b && leb b 57

unfoldable pub all_digits : List ℕ → Bool
all_digits [] = true
all_digits (b ∷ s) = is_digit b && all_digits s

-- the number that digits spell, after a number already read
unfoldable pub decimal_from : ℕ → List ℕ → ℕ
decimal_from n [] = n
decimal_from n (b ∷ s) = decimal_from (n * 10 + (b - 48)) s

unfoldable pub decimal : List ℕ → ℕ
decimal s = decimal_from 0 s

-- the w bytes of a line from index k on
abbrev pub field : List ℕ → ℕ → ℕ → List ℕ
field line k w = take w (drop k line)

-- ---- days: "a real date from 1970 to 2099 (month lengths from a table of two rows, plain and leap years)"

-- from 1970 to 2099 every fourth year is a leap year, 2000 too: 1 for a leap year, 0 for a plain one
unfoldable pub leap : ℕ → ℕ
leap year = pick (eqb (year % 4) 0) 1 0

-- the table of two rows
unfoldable pub month_lengths : ℕ → List ℕ
month_lengths zero = 31 ∷ 28 ∷ 31 ∷ 30 ∷ 31 ∷ 30 ∷ 31 ∷ 31 ∷ 30 ∷ 31 ∷ 30 ∷ 31 ∷ []
month_lengths (suc n) = 31 ∷ 29 ∷ 31 ∷ 30 ∷ 31 ∷ 30 ∷ 31 ∷ 31 ∷ 30 ∷ 31 ∷ 30 ∷ 31 ∷ []

-- the length of a month, 1 to 12
unfoldable pub month_length : ℕ → ℕ → ℕ
month_length row month = get_or (month_lengths row) (month - 1) 0

-- the days of the first m months of a year
unfoldable pub month_days : ℕ → ℕ → ℕ
month_days row zero = 0
month_days row (suc m) = month_days row m + get_or (month_lengths row) m 0

-- the days of the first n years from 1970 on
unfoldable pub year_days : ℕ → ℕ
year_days zero = 0
year_days (suc n) = year_days n + (365 + leap (1970 + n))

-- the days from 1 January 1970 to a date
unfoldable pub day_number : ℕ → ℕ → ℕ → ℕ
day_number year month day = year_days (year - 1970) + (month_days (leap year) (month - 1) + (day - 1))

unfoldable pub real_date : ℕ → ℕ → ℕ → Bool
real_date year month day =
    (leb 1970 year && leb year 2099) && ((leb 1 month && leb month 12) && (leb 1 day && leb day (month_length (leap year) month)))

-- ---- the two forms

-- "`@` and 1 to 10 digits of at most 4294967295 (seconds since 1970)"
unfoldable pub at_form : List ℕ → Bool
at_form line =
    eqb (get_or line 0 0) 64
    && ((leb 2 (length line) && leb (length line) 11) && (all_digits (drop 1 line) && leb (decimal (drop 1 line)) 4294967295))

-- "`Www,YYYY.MM.DD hh:mm:ss Z`: three bytes for the day name ..": the bytes between the numbers
unfoldable pub text_marks : List ℕ → Bool
text_marks line =
    (eqb (get_or line 3 0) 44 && (eqb (get_or line 8 0) 46 && eqb (get_or line 11 0) 46))
    && (eqb (get_or line 14 0) 32 && (eqb (get_or line 17 0) 58 && (eqb (get_or line 20 0) 58 && eqb (get_or line 23 0) 32)))

unfoldable pub text_digits : List ℕ → Bool
text_digits line =
    (all_digits (field line 4 4) && (all_digits (field line 9 2) && all_digits (field line 12 2)))
    && (all_digits (field line 15 2) && (all_digits (field line 18 2) && all_digits (field line 21 2)))

unfoldable pub text_day : List ℕ → Bool
text_day line = real_date (decimal (field line 4 4)) (decimal (field line 9 2)) (decimal (field line 12 2))

-- "hours to 23, the rest to 59"
unfoldable pub text_clock : List ℕ → Bool
text_clock line = leb (decimal (field line 15 2)) 23 && (leb (decimal (field line 18 2)) 59 && leb (decimal (field line 21 2)) 59)

-- #101: "only when its zone is exactly `GMT` or `UTC`"; the zone is all that stands behind the last mark
unfoldable pub text_zone : List ℕ → Bool
text_zone line = same (drop 24 line) (71 ∷ 77 ∷ 84 ∷ []) || same (drop 24 line) (85 ∷ 84 ∷ 67 ∷ [])

unfoldable pub text_form : List ℕ → Bool
text_form line = text_zone line && ((text_marks line && text_digits line) && (text_day line && text_clock line))

unfoldable pub text_seconds : List ℕ → ℕ
text_seconds line =
    day_number (decimal (field line 4 4)) (decimal (field line 9 2)) (decimal (field line 12 2)) * 86400
    + (decimal (field line 15 2) * 3600 + (decimal (field line 18 2) * 60 + decimal (field line 21 2)))

-- the seconds since 1970 that a time line spells
unfoldable pub seconds_of : List ℕ → Option ℕ
seconds_of line = pick (at_form line) (Some (decimal (drop 1 line))) (pick (text_form line) (Some (text_seconds line)) None)

-- ---- a file's time: 16, 1, 2, 3, 4, then 17 at the time line's first byte

abbrev pub stamp_from : Option ℕ → ℕ → ℕ → Result Stamp Refusal
stamp_from None place n = Err (record { number = 17; place = place })
stamp_from (Some t) place n = Ok (record { seconds = t; place = place; size = n })

abbrev pub stamp_opened : Opening → Result Stamp Refusal
stamp_opened (shut n p) = Err (record { number = n; place = p })
stamp_opened (opened version place h) = stamp_from (seconds_of h.time) (25 + length h.title) (length h.time)

unfoldable pub stamp_of : List ℕ → Result Stamp Refusal
stamp_of file = stamp_opened (opening_of file)

-- ---- "The answer is first, second or same, with the time line of the later file, handed back as that part of the file it came from"

pub data Comparison : Type 0 where
  first : Comparison
  second : Comparison
  equal : Comparison
  -- a refusal of the first or of the second file
  first_refused : ℕ → ℕ → Comparison
  second_refused : ℕ → ℕ → Comparison

abbrev pub judged : Result Stamp Refusal → Result Stamp Refusal → Comparison
judged (Err r) b = first_refused r.number r.place
judged (Ok s) (Err r) = second_refused r.number r.place
judged (Ok s) (Ok t) = pick (ltb t.seconds s.seconds) first (pick (ltb s.seconds t.seconds) second equal)

unfoldable pub compare_of : List ℕ → List ℕ → Comparison
compare_of a b = judged (stamp_of a) (stamp_of b)

-- "an empty part when same or refused": which file the part is of (1 or 2; 0 for an empty part), its place and its length
abbrev pub no_part : Handed
no_part = record { file = 0; place = 0; size = 0 }

abbrev pub part_of : ℕ → Result Stamp Refusal → Handed
part_of k (Err r) = no_part
part_of k (Ok s) = record { file = k; place = s.place; size = s.size }

abbrev pub handed : Comparison → Result Stamp Refusal → Result Stamp Refusal → Handed
handed first a b = part_of 1 a
handed second a b = part_of 2 b
handed equal a b = no_part
handed (first_refused n p) a b = no_part
handed (second_refused n p) a b = no_part

unfoldable pub later_part : List ℕ → List ℕ → Handed
later_part a b = handed (compare_of a b) (stamp_of a) (stamp_of b)
