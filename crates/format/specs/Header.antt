-- The header of a file, document 01, "Header", with refusals 1 to 4. Assumes nothing.
use Rattle.std.specs.Prelude.{ℕ, suc, ◌+◌, ◌-◌, List, [], ◌∷◌, Bool, ◌&&◌, not, length, get_or, take, drop, eqb, ltb, leb}
use Rattle.format.specs.Bytes.{pick, same}

-- what a header says: extended elevation (1) or not (0), the title line and the time line without their linefeeds
pub record Header : Type 0 where
  pub extended : ℕ
  pub title : List ℕ
  pub time : List ℕ

-- a header's refusal by number and place; or the version, the place of the first item and what the header says
pub data Opening : Type 0 where
  shut : ℕ → ℕ → Opening
  opened : ℕ → ℕ → Header → Opening

-- "The 21 bytes `Survex 3D Image File` and linefeed"
unfoldable pub magic : List ℕ
magic = 83 ∷ 117 ∷ 114 ∷ 118 ∷ 101 ∷ 120 ∷ 32 ∷ 51 ∷ 68 ∷ 32 ∷ 73 ∷ 109 ∷ 97 ∷ 103 ∷ 101 ∷ 32 ∷ 70 ∷ 105 ∷ 108 ∷ 101 ∷ 10 ∷ []

-- "A title has at most 4,096 bytes and a time line 64"
abbrev pub title_limit : ℕ
title_limit = 4096

abbrev pub time_limit : ℕ
time_limit = 64

-- how many bytes stand before the first linefeed of s; all of them where it has none
unfoldable pub line_end : List ℕ → ℕ
line_end [] = 0
line_end (b ∷ s) = pick (eqb b 10) 0 (suc (line_end s))

-- "neither may end in a carriage return"
unfoldable pub ends_in_return : List ℕ → Bool
ends_in_return l = eqb (get_or l (length l - 1) 0) 13

-- 3 is due where the line at the front of s is "unended, too long or with final carriage return"
unfoldable pub good_line : ℕ → List ℕ → Bool
good_line limit s = ltb (line_end s) (length s) && (leb (line_end s) limit && not (ends_in_return (take (line_end s) s)))

-- "v8 then has one byte: 0x80 an extended elevation, other bits reserved"; missing it gives 3, a reserved bit 4
unfoldable pub extended_byte : List ℕ → ℕ → Header → Opening
extended_byte file place h =
    pick (leb (length file) place) (shut 3 (length file))
    (pick (eqb (get_or file place 0) 0x00) (opened 8 (place + 1) h)
    (pick (eqb (get_or file place 0) 0x80) (opened 8 (place + 1) (record { extended = 1; title = h.title; time = h.time }))
    (shut 4 place)))

-- "v3 to v7 are never extended"
unfoldable pub closed_header : ℕ → List ℕ → ℕ → Header → Opening
closed_header version file place h = pick (eqb version 8) (extended_byte file place h) (opened version place h)

-- the time line, after a title line of k bytes
unfoldable pub time_line : ℕ → List ℕ → ℕ → Opening
time_line version file k =
    let u = drop (25 + k) file in
    pick (good_line time_limit u)
    (closed_header version file (26 + k + line_end u) (record { extended = 0; title = take k (drop 24 file); time = take (line_end u) u }))
    (shut 3 (25 + k))

-- the title line
unfoldable pub title_line : ℕ → List ℕ → Opening
title_line version file = pick (good_line title_limit (drop 24 file)) (time_line version file (line_end (drop 24 file))) (shut 3 24)

-- "`v3` to `v8` and linefeed", of the three bytes at 21
unfoldable pub good_version : List ℕ → Bool
good_version file = eqb (get_or file 21 0) 118 && (leb 51 (get_or file 22 0) && (leb (get_or file 22 0) 56 && eqb (get_or file 23 0) 10))

-- the header at the front of a file; refusals in the order 1, 2, 3, the v8 byte
unfoldable pub header_of : List ℕ → Opening
header_of file =
    pick (same (take 21 file) magic)
    (pick (good_version file) (title_line (get_or file 22 0 - 48) file) (shut 2 21))
    (shut 1 0)

-- 16: "file read or written over 16,777,216 bytes", judged first
abbrev pub file_limit : ℕ
file_limit = 16777216

-- "Opening judges 16 and the header"
unfoldable pub opening_of : List ℕ → Opening
opening_of file = pick (ltb file_limit (length file)) (shut 16 0) (header_of file)
