-- #113: a sheet made by reading is never refused with 12 or 13 by the v8 writer, so conversion, which reads and then writes, gives the reader's
-- refusals, then 16 and 11, and no others; what it leaves is house-written. Assumes nothing.
use Prim.Native.Nat.{ℕ, ◌≤◌}
use native.Mathlib.Omega.{arith}
use mathlib.Core.Path.{◌≡◌, refl, sym, ◌∙◌}
use mathlib.Core.List.{List}
use mathlib.Core.Bool.{Bool, true, false}
use mathlib.Core.Logic.{◌⊎◌, inl, inr}
use lib.ListN.{length, take, drop}
use lib.Seq.{take_at}
use lib.Dec.{ltb}
use Rattle.format.specs.Bytes.{pick, over, Bytes}
use Rattle.format.specs.Header.{Header, Opening, shut, opened, opening_of, file_limit}
use Rattle.format.specs.State.{State, start, Record, Next, bad, end, on, made}
use Rattle.format.specs.Sheet.{sheet_version, sheet_of, sheet_result, front_header}
use Rattle.format.specs.Refusals.{reader_number, Result, stop, Outcome, accepted, refused, outcome_of, buffer_of, Verdict, Good, Refusal}
use Rattle.format.specs.Reading.{next, ended, after_item, read_step, run, items_of, read_from, read_outcome, read_buffer}
use Rattle.format.specs.Writing.{v8, file_of, size_verdict, filed_outcome, written_outcome, write_outcome, write_buffer}
use Rattle.format.specs.Editing.{edit_outcome}
use Rattle.format.specs.Conversion.{converted_file, converted_outcome, convert_outcome, convert_buffer}
use Rattle.format.proofs.Basics.{pick_case}
use Rattle.format.proofs.IterateLaws.{iter_ind}
use Rattle.format.proofs.HeaderLaws.{FitsOpening, fits_opening, opening_fits}
use Rattle.format.proofs.RefusalLaws.{never}
use Rattle.format.proofs.ReadingLaws.{SizedNext, next_sized}
use Rattle.format.proofs.SheetLaws.{sheet_records}
use Rattle.format.proofs.GoodRecords.{items_formed, items_sayable}
use Rattle.format.proofs.RoundTrip.{Accepted, accepted_means, accepted_fits, writes}
use Rattle.format.proofs.OurFiles.{Ours, file_ours, never_14}

-- ---- the numbers that reading refuses with

abbrev ReadersVerdict : Verdict → Type 0
ReadersVerdict Good = Unit
ReadersVerdict (Refusal n p) = reader_number n ≡ true

after_numbers : (at m : ℕ) (s : List ℕ) (x : Next) (go : ℕ → State → Result) → SizedNext m x → ((k : ℕ) (st : State) → ReadersVerdict (go k st).verdict)
    → ReadersVerdict (after_item x at s go).verdict
unfolding ended
after_numbers at m s (bad k) go z f = z
after_numbers at m s end go z f = pick_case ReadersVerdict _ _ _ (λ e. refl) λ e. tt
after_numbers at m s (on n st) go z f = f n st
after_numbers at m s (made n r st) go z f = f n st

items_numbers : (version place : ℕ) (file : List ℕ) → ReadersVerdict (items_of version place file).verdict
unfolding items_of run read_step
items_numbers version place file =
    iter_ind (read_step version) (λ p. stop (Refusal 5 p)) (λ s st x. ReadersVerdict x.verdict) (λ p s st. refl)
    (λ p s st go f. after_numbers p (length s) s (next version s st) go (next_sized version s st) f) place (drop place file) start

outcome_numbers_lem : (v : Verdict) (bytes records version room n p : ℕ) → ReadersVerdict v → outcome_of v bytes records version room ≡ refused n p
    → reader_number n ≡ true
unfolding pick
outcome_numbers_lem (Refusal k q) bytes records version room n p r e = let z : k ≡ n = cc in rw z at r
outcome_numbers_lem Good bytes records version room n p r e = go (ltb room bytes) e
  where
    go : (t : Bool) → pick t (refused 11 bytes) (accepted bytes records version) ≡ refused n p → reader_number n ≡ true
    go true e = let z : 11 ≡ n = cc in rw (← z)
    go false e = absurd (never n p bytes records version (sym e))

pub read_numbers : (file : List ℕ) (room n p : ℕ) → read_outcome file room ≡ refused n p → reader_number n ≡ true
unfolding read_outcome
read_numbers file room n p = go (opening_of file) (fits_opening file)
  where
    go : (o : Opening) → FitsOpening file o → read_from o file room ≡ refused n p → reader_number n ≡ true
    go (shut k q) f e = let z : k ≡ n = cc in rw z at f
    go (opened v q h) f e =
        let x = items_of v q file in
        outcome_numbers_lem x.verdict (length (sheet_of sheet_version h x.records)) (length x.records) v room n p (items_numbers v q file) e

-- ---- a new file of so many bytes

-- what is answered of it once nothing but its size and the room can be wrong
abbrev new_outcome : ℕ → ℕ → ℕ → Outcome
new_outcome bytes count room = outcome_of (size_verdict bytes) bytes count 8 room

-- 16, or 11 with the length needed
abbrev pub Size : ℕ → ℕ → ℕ → Type 0
Size bytes n p = ((n ≡ 16) × (p ≡ 0)) ⊎ ((n ≡ 11) × (p ≡ bytes))

new_refused : (bytes count room n p : ℕ) → new_outcome bytes count room ≡ refused n p → Size bytes n p
unfolding size_verdict pick
new_refused bytes count room n p e = go (ltb file_limit bytes) (ltb room bytes) refl e
  where
    go : (s t : Bool) → ltb room bytes ≡ t → outcome_of (pick s (Refusal 16 0) Good) bytes count 8 room ≡ refused n p → Size bytes n p
    go true t q e = inl (cc, cc)
    go false true q e = let f : refused 11 bytes ≡ refused n p = rw q at e in inr (cc, cc)
    go false false q e = absurd (never n p bytes count 8 (let f : accepted bytes count 8 ≡ refused n p = rw q at e in sym f))

-- neither of these numbers
other : (n p bytes : ℕ) → (n ≡ 16 → ⊥) → (n ≡ 11 → ⊥) → Size bytes n p → ⊥
other n p bytes f g (inl e) = f e.0
other n p bytes f g (inr e) = g e.0

-- ---- an accepted reading, written

module _ (file lent : List ℕ) (bytes : Bytes file) (size count version : ℕ) (accept : read_outcome file (length lent) ≡ accepted size count version) where
  abbrev gave : List ℕ
  gave = take size (read_buffer file lent)

  abbrev new : List ℕ
  new = converted_file file

  -- the file opened
  module _ (v p : ℕ) (h : Header) (opens : opening_of file ≡ opened v p h) where
    abbrev rs : List Record
    rs = (items_of v p file).records

    abbrev sheet : List ℕ
    sheet = sheet_of sheet_version h rs

    accepted_read : Accepted (items_of v p file).verdict (length sheet) (length rs) v (length lent) size count version
    unfolding read_outcome
    accepted_read = accepted_means (items_of v p file).verdict (length sheet) (length rs) v (length lent) size count version (rw opens at accept)

    gave_is : gave ≡ sheet
    unfolding read_buffer over
    gave_is = rw (accept, opens) (take_at sheet (drop (length sheet) lent) size (sym accepted_read.bytes_are))

    back : (sheet_result sheet ≡ record { records = rs; verdict = Good }) × (front_header sheet ≡ h)
    back = sheet_records h (opening_fits file opens).header rs (items_formed v p file bytes)

    new_is : new ≡ file_of v8 h rs
    unfolding converted_file
    new_is = rw opens

    answer_at : (room : ℕ) → write_outcome v8 gave room ≡ new_outcome (length new) count room
    unfolding write_outcome written_outcome filed_outcome
    answer_at room = rw (gave_is, back.0, back.1, items_sayable v p file bytes, new_is, accepted_read.records_are)

    buffer_at : (old : List ℕ) → write_buffer v8 gave old ≡ buffer_of (new_outcome (length new) count (length old)) new old
    unfolding write_buffer
    buffer_at old = rw (answer_at (length old), gave_is, back.0, back.1, new_is)

    ours_at : (room b n w : ℕ) → write_outcome v8 gave room ≡ accepted b n w → Ours new h rs
    unfolding write_outcome
    ours_at room b n w e =
        let x : Result = record { records = rs; verdict = Good } in
        let q : written_outcome v8 h x room ≡ accepted b n w = rw (gave_is, back.0, back.1) at e in
        rw new_is (file_ours h (opening_fits file opens).header x b n w (items_formed v p file bytes) (writes v8 h x room b n w q))

  with_opening : {P : Type 0} → ((v p : ℕ) (h : Header) → opening_of file ≡ opened v p h → P) → P
  unfolding read_outcome
  with_opening {P} f = go (opening_of file) refl accept
    where
      go : (o : Opening) → opening_of file ≡ o → read_from o file (length lent) ≡ accepted size count version → P
      go (shut k q) r e = absurd (never k q size count version e)
      go (opened v p h) r e = f v p h r

  -- writing the sheet answers 16, then 11, else the new file's bytes and the same record count
  pub read_written : (room : ℕ) → write_outcome v8 gave room ≡ new_outcome (length new) count room
  read_written room = with_opening (λ v p h q. answer_at v p h q room)

  pub read_written_buffer : (old : List ℕ) → write_buffer v8 gave old ≡ buffer_of (new_outcome (length new) count (length old)) new old
  read_written_buffer old = with_opening (λ v p h q. buffer_at v p h q old)

  -- "a sheet made by reading is never refused with 12 or 13 by the v8 writer": a refusal is 16, or 11 with the new file's length
  pub only_16_11 : (room n p : ℕ) → write_outcome v8 gave room ≡ refused n p → Size (length new) n p
  only_16_11 room n p e = new_refused (length new) count room n p (sym (read_written room) ∙ e)

  pub never_12 : (room p : ℕ) → write_outcome v8 gave room ≡ refused 12 p → ⊥
  never_12 room p e = other 12 p (length new) (λ q. omega arith) (λ q. omega arith) (only_16_11 room 12 p e)

  pub never_13 : (room p : ℕ) → write_outcome v8 gave room ≡ refused 13 p → ⊥
  never_13 room p e = other 13 p (length new) (λ q. omega arith) (λ q. omega arith) (only_16_11 room 13 p e)

  -- the new file is house-written
  pub new_never_14 : (room b n w : ℕ) → write_outcome v8 gave room ≡ accepted b n w
      → (first run : ℕ) (put : List ℕ) (room' p : ℕ) → edit_outcome new first run put room' ≡ refused 14 p → ⊥
  new_never_14 room b n w e = with_opening (λ v p h r. never_14 (ours_at v p h r room b n w e))

-- ---- conversion: "the reader's, then 16 and 11"

module _ (file sheet : List ℕ) where
  -- a refusal of the reader is passed on
  pub convert_refused : (n p : ℕ) → read_outcome file (length sheet) ≡ refused n p
      → (old : List ℕ) → (convert_outcome file (length sheet) (length old) ≡ refused n p) × (convert_buffer file (length sheet) old ≡ old)
  unfolding convert_outcome convert_buffer
  convert_refused n p e old = (rw e, rw e)

  module _ (bytes : Bytes file) where
    -- "Conversion reads to a lent sheet, then writes"
    pub convert_written : (b n v : ℕ) → read_outcome file (length sheet) ≡ accepted b n v
        → (old : List ℕ) → (convert_outcome file (length sheet) (length old) ≡ write_outcome v8 (take b (read_buffer file sheet)) (length old))
        × (convert_buffer file (length sheet) old ≡ write_buffer v8 (take b (read_buffer file sheet)) old)
    unfolding convert_outcome convert_buffer
    convert_written b n v e old =
        let a = read_written file sheet bytes b n v e (length old) in
        let w = read_written_buffer file sheet bytes b n v e old in
        (rw (e, a), rw (e, w))

-- a refusal is the reader's, or 16, or 11 with the new file's length
pub convert_refusals : (file : List ℕ) (sheetRoom room n p : ℕ) → convert_outcome file sheetRoom room ≡ refused n p
    → (read_outcome file sheetRoom ≡ refused n p) ⊎ Size (length (converted_file file)) n p
unfolding convert_outcome
convert_refusals file sheetRoom room n p = go (read_outcome file sheetRoom)
  where
    go : (o : Outcome) → converted_outcome o (length (converted_file file)) room ≡ refused n p
        → (o ≡ refused n p) ⊎ Size (length (converted_file file)) n p
    go (accepted b count v) e = inr (new_refused (length (converted_file file)) count room n p e)
    go (refused k q) e = inl e

-- so its number is one that reading gives, and neither 12 nor 13
pub convert_numbers : (file : List ℕ) (sheetRoom room n p : ℕ) → convert_outcome file sheetRoom room ≡ refused n p → reader_number n ≡ true
convert_numbers file sheetRoom room n p e = go (convert_refusals file sheetRoom room n p e)
  where
    go : (read_outcome file sheetRoom ≡ refused n p) ⊎ Size (length (converted_file file)) n p → reader_number n ≡ true
    go (inl f) = read_numbers file sheetRoom n p f
    go (inr (inl f)) = rw f.0
    go (inr (inr f)) = rw f.0

-- an accepted conversion leaves the new file at the buffer's front
pub converted_file_lem : (file : List ℕ) (sheetRoom : ℕ) (old : List ℕ) (b n w : ℕ) → convert_outcome file sheetRoom (length old) ≡ accepted b n w
    → (take b (convert_buffer file sheetRoom old) ≡ converted_file file) × (b ≤ length old)
unfolding convert_outcome convert_buffer over
converted_file_lem file sheetRoom old b n w = go (read_outcome file sheetRoom)
  where
    new : List ℕ
    new = converted_file file

    go : (o : Outcome) → converted_outcome o (length new) (length old) ≡ accepted b n w
        → (take b (buffer_of (converted_outcome o (length new) (length old)) new old) ≡ new) × (b ≤ length old)
    go (accepted size count v) e =
        let A = accepted_means (size_verdict (length new)) (length new) count 8 (length old) b n w e in
        (rw e (take_at new (drop (length new) old) b (sym A.bytes_are)), accepted_fits A)
    go (refused k q) e = absurd (never k q b n w e)

-- and it is house-written: an edit of it never answers 14
pub converted_never_14 : (file : List ℕ) → Bytes file → (sheet old : List ℕ) (b n w : ℕ) → convert_outcome file (length sheet) (length old) ≡ accepted b n w
    → (first run : ℕ) (put : List ℕ) (room p : ℕ) → edit_outcome (take b (convert_buffer file (length sheet) old)) first run put room ≡ refused 14 p → ⊥
converted_never_14 file bytes sheet old b n w e first run put room p f = go (read_outcome file (length sheet)) refl
  where
    go : (o : Outcome) → read_outcome file (length sheet) ≡ o → ⊥
    go (accepted size count v) q =
        new_never_14 file sheet bytes size count v q (length old) b n w (sym (convert_written file sheet bytes size count v q old).0 ∙ e) first run put room p
        (rw (converted_file_lem file (length sheet) old b n w e).0 at f)
    go (refused k q) r = never k q b n w (sym (convert_refused file sheet k q r old).0 ∙ e)
