-- What the code's answers say in document 01's terms. Assumes nothing.
use Rattle.std.specs.Prelude.{ℕ, ◌+◌, ◌-◌, ◌≤◌, ◌≡◌, List, true, false, length, get_or, take, drop, Option, Some, None}
use Rattle.format.specs.Bytes.{be32}
use Rattle.format.specs.Items.{point_of}
use Rattle.format.specs.Sheet.{Entry, flawed, entry, entry_of, header_from, good_header, good_front, front_header, behind_front}
use Rattle.format.specs.WellFormed.{WellFormed}
use Rattle.format.specs.Fields.{record_of}
use Rattle.format.specs.declared.Dated.{Dated}
use Rattle.format.specs.declared.Fields.{Fields}
use Rattle.format.specs.declared.Fields.TheVariants.{Leg}
use Rattle.sheet.specs.declared.Entry.{Entry as Found}
use Rattle.sheet.specs.declared.Front.{Front}

-- ---- the record at the front of s

-- the leg of a record with its length bytes
abbrev pub leg_of : List ℕ → Dated → Fields
leg_of s date = Leg (get_or s 3 0) (get_or s 4 0) date (point_of be32 (drop 10 s)) (point_of be32 (drop 22 s))

-- its label runs to its end
abbrev pub label_of : ℕ → ℕ → List ℕ → List ℕ
label_of n k s = take (n - k) (drop k s)

abbrev pub entry_seen : Option Found → List ℕ → Entry
entry_seen None s = flawed
entry_seen (Some e) s = entry e.size (record_of e.fields (label_of e.size e.from s))

-- its label stands in it, and it in s; "Labels have 0 to 4,096 bytes"
pub record Inside (s : List ℕ) (n : ℕ) (f : Fields) (k : ℕ) : Type 0 where
  pub from_within : k ≤ n
  pub within : n ≤ length s
  pub short : n ≤ k + 4096

abbrev pub InsideOf : Option Found → List ℕ → Type 0
InsideOf None s = Unit
InsideOf (Some e) s = Inside s e.size e.fields e.from

-- an answer tells that x is at the front of s
pub record Told (r : Option Found) (s : List ℕ) (x : Entry) : Type 0 where
  pub same : entry_seen r s ≡ x
  pub inside : InsideOf r s

abbrev pub FormedOf : Option Found → List ℕ → Type 0
FormedOf None s = Unit
FormedOf (Some e) s = WellFormed (record_of e.fields (label_of e.size e.from s))

-- the same of the record at the front of s, which is well-formed
pub record EntryTold (r : Option Found) (version : ℕ) (s : List ℕ) : Type 0 where
  pub same : entry_seen r s ≡ entry_of version s
  pub inside : InsideOf r s
  pub formed : FormedOf r s

-- ---- the front of a sheet

-- the header record of n bytes t, with a title of k bytes and a time line of m
pub record Headed (n : ℕ) (t : List ℕ) (extended k m : ℕ) : Type 0 where
  pub good : good_header n t ≡ true
  pub header : header_from n t ≡ record { extended = extended; title = take k (drop 4 t); time = take m (drop (4 + k) t) }
  pub size : n ≡ 4 + k + m
  pub extended_small : extended ≤ 1
  pub title_short : k ≤ 4096
  pub time_short : m ≤ 64

abbrev pub HeaderTold : Option Front → ℕ → List ℕ → Type 0
HeaderTold None n t = good_header n t ≡ false
HeaderTold (Some f) n t = Headed n t f.extended f.title f.time

-- the front of a sheet: the title starts at 7, the time line behind it, and behind that the records
pub record Fronted (version : ℕ) (sheet : List ℕ) (extended k m : ℕ) : Type 0 where
  pub good : good_front version sheet ≡ true
  pub header : front_header sheet ≡ record { extended = extended; title = take k (drop 7 sheet); time = take m (drop (7 + k) sheet) }
  pub behind : behind_front sheet ≡ drop (7 + k + m) sheet
  pub inside : 7 + k + m ≤ length sheet
  pub extended_small : extended ≤ 1
  pub title_short : k ≤ 4096
  pub time_short : m ≤ 64

abbrev pub FrontTold : Option Front → ℕ → List ℕ → Type 0
FrontTold None version sheet = good_front version sheet ≡ false
FrontTold (Some f) version sheet = Fronted version sheet f.extended f.title f.time
