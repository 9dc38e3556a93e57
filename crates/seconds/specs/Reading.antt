-- What each piece of a time line spells: a number, or nothing where it breaks document 01's form. Assumes nothing.
use Rattle.std.specs.Prelude.{ℕ, ◌+◌, ◌*◌, List, Bool, ◌&&◌, leb, Option, None, Some}
use Rattle.format.specs.Bytes.{pick}
use Rattle.format.specs.Times.{all_digits, decimal_from, decimal, field, day_number, text_day, text_clock}

-- a number where the test passes, else nothing
abbrev pub spelled : Bool → ℕ → Option ℕ
spelled b n = pick b (Some n) None

-- "digits of at most 4294967295": the number that digits spell, after a number already read
unfoldable pub number_from : ℕ → List ℕ → Option ℕ
number_from n s = spelled (all_digits s && leb (decimal_from n s) 4294967295) (decimal_from n s)

-- "a real date": the days since 1970 of `YYYY.MM.DD`
unfoldable pub date_of : List ℕ → Option ℕ
date_of line =
    spelled ((all_digits (field line 4 4) && (all_digits (field line 9 2) && all_digits (field line 12 2))) && text_day line)
    (day_number (decimal (field line 4 4)) (decimal (field line 9 2)) (decimal (field line 12 2)))

-- "hours to 23, the rest to 59": the seconds of the day of `hh:mm:ss`
unfoldable pub clock_of : List ℕ → Option ℕ
clock_of line =
    spelled ((all_digits (field line 15 2) && (all_digits (field line 18 2) && all_digits (field line 21 2))) && text_clock line)
    (decimal (field line 15 2) * 3600 + (decimal (field line 18 2) * 60 + decimal (field line 21 2)))
