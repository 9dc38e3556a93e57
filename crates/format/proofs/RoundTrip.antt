-- The round trip, once for any writer whose codes are read back: what writing a good sheet gives, reading gives back as the sheet of the
-- records' images, byte for byte, with the same record count. v8: the same sheet; a version 1 sheet comes back as its version 2 twin. v7: the
-- twin with every style not said. Assumes nothing.
use Prim.Native.Nat.{ℕ, suc, ◌≤◌}
use mathlib.Core.Path.{◌≡◌, refl, sym, ap, ◌∙◌}
use mathlib.Core.List.{List, [], ◌∷◌, map}
use mathlib.Core.Bool.{Bool, true, false}
use native.Mathlib.Omega.{arith}
use lib.ListN.{length, get_or, take, drop}
use lib.Seq.{take_at, drop-append_seam}
use borrow.Author.Tests.{ltb-false, le-ltb}
use Rattle.format.specs.Bytes.{pick, over, Bytes}
use Rattle.format.specs.Header.{Header, opened, opening_of, file_limit}
use Rattle.format.specs.State.{State, start, Record}
use Rattle.format.specs.Sheet.{sheet_version, sheet_of, sheet_result, version_of, front_header}
use Rattle.format.specs.Refusals.{Result, or_else, accepted, outcome_of, buffer_of, Good, Refusal, Verdict}
use Rattle.format.specs.WellFormed.{GoodHeader, AllWellFormed}
use Rattle.format.specs.Reading.{items_of, sheet_from, read_outcome, read_buffer}
use Rattle.format.specs.Writing.{Writer, v8, v7, encode_all, file_of, records_verdict, size_verdict, writing_verdict, written_outcome, filed_outcome}
use Rattle.format.specs.Writing.{headed_by, write_outcome, write_buffer, twin, v7_twin}
use Rattle.format.specs.Codes.{header_codes}
use Rattle.format.proofs.Basics.{second_picked}
use Rattle.format.proofs.RefusalLaws.{never}
use Rattle.format.proofs.SheetLaws.{SheetRead, records_sheet}
use Rattle.format.proofs.ReadBack.{ReadsBack, encode_read, v8_reads_back, v7_reads_back}

-- ---- verdicts and outcomes

pub both_good : (v w : Verdict) → or_else v w ≡ Good → (v ≡ Good) × (w ≡ Good)
both_good Good w e = (refl, e)
both_good (Refusal n p) w e = absurd (let z : ◌≡◌ {A = ℕ} 0 1 = cc in omega arith)

pub size_fits : (n : ℕ) → size_verdict n ≡ Good → n ≤ file_limit
unfolding size_verdict
size_fits n e = ltb-false _ _ (second_picked (λ q. let z : ◌≡◌ {A = ℕ} 0 1 = cc in omega arith) e).0

-- what an accepted outcome says
pub record Accepted (v : Verdict) (bytes records version room b n w : ℕ) : Type 0 where
  pub fine : v ≡ Good
  pub bytes_are : b ≡ bytes
  pub records_are : n ≡ records
  pub version_is : w ≡ version
  pub fits : bytes ≤ room

pub accepted_means : (v : Verdict) (bytes records version room b n w : ℕ) → outcome_of v bytes records version room ≡ accepted b n w
    → Accepted v bytes records version room b n w
accepted_means Good bytes records version room b n w e =
    let p = second_picked (never 11 bytes b n w) e in
    let q = p.1 in
    record { fine = refl; bytes_are = cc; records_are = cc; version_is = cc; fits = ltb-false _ _ p.0 }
accepted_means (Refusal k p) bytes records version room b n w e = absurd (never k p b n w e)

-- what is accepted fits
pub accepted_fits : {v : Verdict} {bytes records version room b n w : ℕ} → Accepted v bytes records version room b n w → b ≤ room
accepted_fits A = let q = A.bytes_are in let r = A.fits in omega arith

-- ---- lists

pub map_same : (rs : List Record) → map (λ r. r) rs ≡ rs
map_same [] = refl
map_same (r ∷ rs) = ap (λ (xs : List Record). r ∷ xs) (map_same rs)

length-map : (f : Record → Record) (rs : List Record) → length (map f rs) ≡ length rs
length-map f [] = refl
length-map f (r ∷ rs) = ap suc (length-map f rs)

-- ---- an accepted writing of a header and records, by any writer

pub record Writes (k : Writer) (h : Header) (x : Result) (b n v : ℕ) : Type 0 where
  pub given : x.verdict ≡ Good
  pub writable : records_verdict k 0 start x.records ≡ Good
  pub small : length (file_of k h x.records) ≤ file_limit
  pub bytes_are : b ≡ length (file_of k h x.records)
  pub records_are : n ≡ length x.records
  pub version_is : v ≡ k.version

module _ (k : Writer) (h : Header) (x : Result) (room b n v : ℕ) (e : written_outcome k h x room ≡ accepted b n v) where
  abbrev whole : List ℕ
  whole = file_of k h x.records

  accepted_written : Accepted (writing_verdict k x (length whole)) (length whole) (length x.records) k.version room b n v
  unfolding written_outcome filed_outcome
  accepted_written = accepted_means _ (length whole) (length x.records) k.version room b n v e

  pub writes : Writes k h x b n v
  writes =
      let A = accepted_written in
      let y = both_good x.verdict (or_else (records_verdict k 0 start x.records) (size_verdict (length whole))) A.fine in
      let z = both_good (records_verdict k 0 start x.records) (size_verdict (length whole)) y.1 in
      record {
        given = y.0;
        writable = z.0;
        small = size_fits (length whole) z.1;
        bytes_are = A.bytes_are;
        records_are = A.records_are;
        version_is = A.version_is;
      }

  -- it leaves the file at the buffer's front
  pub writes_file : (old : List ℕ) → take b (buffer_of (accepted b n v) whole old) ≡ whole
  unfolding over
  writes_file old = take_at whole (drop (length whole) old) b (sym accepted_written.bytes_are)

  -- and is accepted wherever there is room for its bytes
  pub writes_again : (room' : ℕ) → b ≤ room' → written_outcome k h x room' ≡ accepted b n v
  unfolding written_outcome filed_outcome pick
  writes_again room' enough =
      let A = accepted_written in
      let q : length whole ≤ room' = omega (arith, A.bytes_are) in
      rw (A.fine, le-ltb room' (length whole) q, A.bytes_are, A.records_are, A.version_is)

-- what is written of a sheet by a writer: its header is one that the writer can write
module _ (k : Writer) (h : Header) (x : Result) (room b n v : ℕ) where
  headed_writes : (barred : Bool) → written_outcome k h (headed_by barred k.number x) room ≡ accepted b n v → (barred ≡ false)
      × (written_outcome k h x room ≡ accepted b n v)
  headed_writes false e = (refl, e)
  headed_writes true e =
      let w = writes k h (headed_by true k.number x) room b n v e in
      absurd (let z = (both_good x.verdict (Refusal k.number 0) w.given).1 in let y : ◌≡◌ {A = ℕ} 0 1 = cc in omega arith)

-- ---- a file that was written, read

module _ {w : Writer} {image : Record → Record} {Fits : State → Type 0} (B : ReadsBack w image Fits) (h : Header) (g : GoodHeader h)
    (able : w.bars h ≡ false) (rs : List Record) (formed : AllWellFormed rs) (s : records_verdict w 0 start rs ≡ Good)
    (small : length (file_of w h rs) ≤ file_limit) where
  pub file_opens : opening_of (file_of w h rs) ≡ opened w.version (length (w.head h)) h
  unfolding file_of
  file_opens = B.opens h g able (encode_all w start rs) small

  pub file_items : items_of w.version (length (w.head h)) (file_of w h rs) ≡ record { records = map image rs; verdict = Good }
  unfolding items_of file_of
  file_items = rw (drop-append_seam (w.head h) (encode_all w start rs)) (encode_read B rs 0 start B.starts formed s (length (w.head h)))

  pub file_outcome_lem : (room : ℕ) → read_outcome (file_of w h rs) room ≡ outcome_of Good (length (sheet_of sheet_version h (map image rs))) (length rs) w.version
      room
  unfolding read_outcome
  file_outcome_lem room = rw (file_opens, file_items, length-map image rs)

  pub file_sheet : sheet_from (opening_of (file_of w h rs)) (file_of w h rs) ≡ sheet_of sheet_version h (map image rs)
  file_sheet = rw (file_opens, file_items)

-- v8 gives back each record as it was
module _ (h : Header) (g : GoodHeader h) (rs : List Record) (formed : AllWellFormed rs) (s : records_verdict v8 0 start rs ≡ Good)
    (small : length (file_of v8 h rs) ≤ file_limit) where
  pub written_opens : opening_of (file_of v8 h rs) ≡ opened 8 (length (header_codes h)) h
  written_opens = file_opens v8_reads_back h g refl rs formed s small

  pub written_items : items_of 8 (length (header_codes h)) (file_of v8 h rs) ≡ record { records = rs; verdict = Good }
  written_items = file_items v8_reads_back h g refl rs formed s small ∙ rw (map_same rs)

-- ---- a sheet, written and read

-- the file that an accepted writing leaves in the buffer
abbrev pub file_in : ℕ → List ℕ → List ℕ
file_in bytes buffer = take bytes buffer

module _ {w : Writer} {image : Record → Record} {Fits : State → Type 0} (B : ReadsBack w image Fits) (sheet : List ℕ) (bytes : Bytes sheet) (old : List ℕ)
    (b n v : ℕ) (e : write_outcome w sheet (length old) ≡ accepted b n v) where
  abbrev h : Header
  h = front_header sheet

  abbrev rs : List Record
  rs = (sheet_result sheet).records

  -- the sheet of the images
  abbrev image_sheet : List ℕ
  image_sheet = sheet_of sheet_version h (map image rs)

  accepted_both : (w.bars h ≡ false) × (written_outcome w h (sheet_result sheet) (length old) ≡ accepted b n v)
  unfolding write_outcome
  accepted_both = headed_writes w h (sheet_result sheet) (length old) b n v (w.bars h) e

  written : Writes w h (sheet_result sheet) b n v
  written = writes w h (sheet_result sheet) (length old) b n v accepted_both.1

  good_sheet : sheet_result sheet ≡ record { records = rs; verdict = Good }
  good_sheet = λ i. record { records = rs; verdict = written.given i }

  pub sheet_read : SheetRead (version_of sheet) sheet rs
  sheet_read = records_sheet sheet bytes rs good_sheet

  -- the buffer begins with the file
  pub file_in_buffer : take b (write_buffer w sheet old) ≡ file_of w h rs
  unfolding write_buffer
  file_in_buffer = rw e (writes_file w h (sheet_result sheet) (length old) b n v accepted_both.1 old)

  -- reading it answers with the length of the images' sheet and the same record count
  pub image_answer : (room : ℕ) → read_outcome (take b (write_buffer w sheet old)) room ≡ outcome_of Good (length image_sheet) n w.version room
  image_answer room =
      rw (file_in_buffer, written.records_are)
      (file_outcome_lem B h sheet_read.header accepted_both.0 rs sheet_read.formed written.writable written.small room)

  -- and gives it, byte for byte
  pub image_sheet_lem : (new : List ℕ) → length image_sheet ≤ length new → read_buffer (take b (write_buffer w sheet old)) new ≡ over image_sheet new
  unfolding read_buffer pick
  image_sheet_lem new fits =
      let t = file_sheet B h sheet_read.header accepted_both.0 rs sheet_read.formed written.writable written.small in
      let a : sheet_from (opening_of (take b (write_buffer w sheet old))) (take b (write_buffer w sheet old)) ≡ image_sheet = rw file_in_buffer t in
      rw (image_answer (length new), le-ltb (length new) (length image_sheet) fits, a)

-- v8: the twin
module _ (sheet : List ℕ) (bytes : Bytes sheet) (old : List ℕ) (b n v : ℕ) (e : write_outcome v8 sheet (length old) ≡ accepted b n v) where
  pub sheet_is : SheetRead (version_of sheet) sheet (sheet_result sheet).records
  sheet_is = sheet_read v8_reads_back sheet bytes old b n v e

  pub file_written : take b (write_buffer v8 sheet old) ≡ file_of v8 (front_header sheet) (sheet_result sheet).records
  file_written = file_in_buffer v8_reads_back sheet bytes old b n v e

  pub twin_answer : (room : ℕ) → read_outcome (take b (write_buffer v8 sheet old)) room ≡ outcome_of Good (length (twin sheet)) n 8 room
  unfolding twin
  twin_answer room = image_answer v8_reads_back sheet bytes old b n v e room ∙ rw (map_same (sheet_result sheet).records)

  pub twin_sheet : (new : List ℕ) → length (twin sheet) ≤ length new → read_buffer (take b (write_buffer v8 sheet old)) new ≡ over (twin sheet) new
  unfolding twin
  twin_sheet new fits = rw (map_same (sheet_result sheet).records) at
      (image_sheet_lem v8_reads_back sheet bytes old b n v e new (rw (map_same (sheet_result sheet).records) fits))

  -- which of a version 2 sheet is the sheet itself
  module _ (two : get_or sheet 0 0 ≡ sheet_version) where
    pub twin_is : twin sheet ≡ sheet
    unfolding twin version_of pick
    twin_is = let v : version_of sheet ≡ sheet_version = rw two in rw v at sheet_is.laid

    pub round_trip_answer : (room : ℕ) → read_outcome (take b (write_buffer v8 sheet old)) room ≡ outcome_of Good (length sheet) n 8 room
    round_trip_answer room = twin_answer room ∙ rw twin_is

    pub round_trip_sheet : (new : List ℕ) → length sheet ≤ length new → read_buffer (take b (write_buffer v8 sheet old)) new ≡ over sheet new
    round_trip_sheet new fits = rw twin_is at (twin_sheet new (rw twin_is fits))

-- v7: "Reading the result gives the same sheet, except that style normal comes back as "not said""
module _ (sheet : List ℕ) (bytes : Bytes sheet) (old : List ℕ) (b n v : ℕ) (e : write_outcome v7 sheet (length old) ≡ accepted b n v) where
  pub v7_twin_answer : (room : ℕ) → read_outcome (take b (write_buffer v7 sheet old)) room ≡ outcome_of Good (length (v7_twin sheet)) n 7 room
  unfolding v7_twin
  v7_twin_answer room = image_answer v7_reads_back sheet bytes old b n v e room

  pub v7_twin_sheet : (new : List ℕ) → length (v7_twin sheet) ≤ length new → read_buffer (take b (write_buffer v7 sheet old)) new ≡ over (v7_twin sheet) new
  unfolding v7_twin
  v7_twin_sheet new fits = image_sheet_lem v7_reads_back sheet bytes old b n v e new fits
