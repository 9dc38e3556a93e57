-- What the answer of opening a file says in document 01's terms, and what else is known of it. Assumes nothing.
use Rattle.std.specs.Prelude.{ℕ, ◌+◌, ◌≤◌, ◌≡◌, List, length, take, drop, eqb, Option, Some, None, Result, Ok, Err}
use Rattle.format.specs.Bytes.{pick}
use Rattle.format.specs.Header.{Opening, shut, opened, Header, line_end, good_line, title_limit, time_limit, file_limit, opening_of}
use Rattle.header.specs.declared.Head.{Head}
use Rattle.format.specs.declared.Refusal.{Refusal}

-- the line at the front of s: how many bytes stand before its linefeed; or "unended, too long or with final carriage return"
unfoldable pub line_of : ℕ → List ℕ → Option ℕ
line_of limit s = pick (good_line limit s) (Some (line_end s)) None

-- what a header says of a title line of t bytes and a time line of m: "title line; time line", from byte 24 on
abbrev pub saying : ℕ → ℕ → ℕ → List ℕ → Header
saying e t m file = record { extended = e; title = take t (drop 24 file); time = take m (drop (25 + t) file) }

-- an answer as the refusal, or the opening, that it stands for
abbrev pub head_seen : Result Head Refusal → List ℕ → Opening
head_seen (Err r) file = shut r.number r.place
head_seen (Ok h) file = opened h.version h.place (saying h.extended h.title h.time file)

-- a header that is whole: the lines and their linefeeds stand in the file, and so does the v8 byte
pub record Room (v p e t m : ℕ) (file : List ℕ) : Type 0 where
  pub oldest : 3 ≤ v
  pub newest : v ≤ 8
  pub flag : e ≤ 1
  pub title_fits : t ≤ title_limit
  pub time_fits : m ≤ time_limit
  pub place_is : p ≡ pick (eqb v 8) (27 + t + m) (26 + t + m)
  pub place_least : 26 + t + m ≤ p
  pub place_most : p ≤ 27 + t + m
  pub inside : p ≤ length file
  pub file_fits : length file ≤ file_limit

abbrev pub Roomy : Result Head Refusal → List ℕ → Type 0
Roomy (Err r) file = Unit
Roomy (Ok h) file = Room h.version h.place h.extended h.title h.time file

-- an answer that stands for what is due, and whose lines and place stand in the file
pub record HeadIs (r : Result Head Refusal) (file : List ℕ) (due : Opening) : Type 0 where
  pub same : head_seen r file ≡ due
  pub room : Roomy r file

-- a file whose header is whole, as such an answer tells it
pub record Opens (file : List ℕ) (version place extended title time : ℕ) : Type 0 where
  pub due : opening_of file ≡ opened version place (saying extended title time file)
  pub room : Room version place extended title time file
