-- Demand 3: editing a house-written file is writing the edited sheet; the old bytes before the run stay, and so do those from each record
-- after it that finds the same state. Assumes nothing.
use Prim.Native.Nat.{ℕ, zero, suc, ◌+◌, ◌-◌, ◌≤◌}
use native.Mathlib.Nat.{add-zero}
use native.Mathlib.Omega.{arith}
use mathlib.Core.Path.{◌≡◌, refl, sym, ap, ap₂, ◌∙◌, subst}
use mathlib.Core.List.{List, [], ◌∷◌, ◌++◌, append_assoc}
use mathlib.Core.Bool.{true}
use lib.ListN.{length, take, drop, length-append, take-append-drop}
use lib.Seq.{drop-drop, drop-append_seam, drop-append-add, length-take-le, take_at}
use borrow.Author.Tests.{le-ltb}
use Rattle.format.specs.Bytes.{pick, Bytes}
use Rattle.format.specs.Header.{Header, opened, opening_of}
use Rattle.format.specs.Label.{label_limit}
use Rattle.format.specs.State.{State, start, Record, on, made}
use Rattle.format.specs.Sheet.{sheet_version, records_of, sheet_of, sheet_result, front_header}
use Rattle.format.specs.Refusals.{Result, accepted, Good}
use Rattle.format.specs.WellFormed.{AllWellFormed}
use Rattle.format.specs.Reading.{next, Reached, begins, goes, makes, items_of}
use Rattle.format.specs.Writing.{v8, codes_all, after_all, encode_all, file_of, records_verdict, written_outcome, write_outcome, write_buffer}
use Rattle.format.specs.Codes.{codes, after, header_codes}
use Rattle.format.specs.Editing.{house_written, edited, house_verdict, run_verdict, edit_verdict, edit_result, edit_outcome, edit_buffer, codes_place, Finds}
use Rattle.format.proofs.Basics.{same_true}
use Rattle.format.proofs.ReadingLaws.{SizedNext, next_sized}
use Rattle.format.proofs.GoingLaws.{Goes, stays, past, adds, goes_as, goes_then, goes_append, goes_reached}
use Rattle.format.proofs.HeaderLaws.{opening_fits}
use Rattle.format.proofs.SheetLaws.{records_formed, sheet_records}
use Rattle.format.proofs.WritingLaws.{encode_append, able, after_short, codes_go}
use Rattle.format.proofs.RoundTrip.{Writes, writes, writes_file}
use Rattle.format.proofs.GoodRecords.{items_formed, items_sayable}

-- ---- reading reaches one state at a place

-- the same bytes from the same state, as many of them, leave the same state
goes_one : {version : ℕ} {s : List ℕ} {st a : State} {rs : List Record} {k : ℕ} → Goes version s st rs k a
    → (s' : List ℕ) (st₀ b : State) (rs' : List Record) (k' : ℕ) → s ≡ s' → st ≡ st₀ → k ≡ k' → Goes version s' st₀ rs' k' b → a ≡ b
goes_one {version} {s} {st} stays s' st₀ b rs' k' es et ek stays = et
goes_one {version} {s} {st} stays s' st₀ b rs' k' es et ek (past n st₁ e f) =
    absurd (let z = subst (SizedNext (length s')) e (next_sized version s' st₀) in omega (arith, z))
goes_one {version} {s} {st} stays s' st₀ b rs' k' es et ek (adds n r st₁ e f) =
    absurd (let z = subst (SizedNext (length s')) e (next_sized version s' st₀) in omega (arith, z))
goes_one {version} {s} {st} (past n st₁ e f) s' st₀ b rs' k' es et ek stays =
    absurd (let z = subst (SizedNext (length s)) e (next_sized version s st) in omega (arith, z))
goes_one {version} {s} {st} (past n st₁ e f) s' st₀ b rs' k' es et ek (past n' st₂ e' f') =
    let q : on n st₁ ≡ on n' st₂ = sym e ∙ ap₂ (next version) es et ∙ e' in
    let en : n ≡ n' = cc in
    let es₁ : st₁ ≡ st₂ = cc in
    goes_one f (drop n' s') st₂ b rs' _ (ap₂ drop en es) es₁ (omega (arith, ek, en)) f'
goes_one {version} {s} {st} (past n st₁ e f) s' st₀ b rs' k' es et ek (adds n' r st₂ e' f') =
    absurd (let q : on n st₁ ≡ made n' r st₂ = sym e ∙ ap₂ (next version) es et ∙ e' in let z : ◌≡◌ {A = ℕ} 0 1 = cc in omega arith)
goes_one {version} {s} {st} (adds n r st₁ e f) s' st₀ b rs' k' es et ek stays =
    absurd (let z = subst (SizedNext (length s)) e (next_sized version s st) in omega (arith, z))
goes_one {version} {s} {st} (adds n r st₁ e f) s' st₀ b rs' k' es et ek (past n' st₂ e' f') =
    absurd (let q : made n r st₁ ≡ on n' st₂ = sym e ∙ ap₂ (next version) es et ∙ e' in let z : ◌≡◌ {A = ℕ} 0 1 = cc in omega arith)
goes_one {version} {s} {st} (adds n r st₁ e f) s' st₀ b rs' k' es et ek (adds n' r' st₂ e' f') =
    let q : made n r st₁ ≡ made n' r' st₂ = sym e ∙ ap₂ (next version) es et ∙ e' in
    let en : n ≡ n' = cc in
    let es₁ : st₁ ≡ st₂ = cc in
    goes_one f (drop n' s') st₂ b _ _ (ap₂ drop en es) es₁ (omega (arith, ek, en)) f'

-- what is reached, as the items from the first on
record From (version : ℕ) (file : List ℕ) (first p : ℕ) (st : State) : Type 0 where
  made_so_far : List Record
  bytes : ℕ
  place : p ≡ first + bytes
  walk : Goes version (drop first file) start made_so_far bytes st

reached_from : {version : ℕ} {file : List ℕ} {first p : ℕ} {st : State} → Reached version file first p st → From version file first p st
reached_from {first = first} begins = record { made_so_far = []; bytes = 0; place = sym (add-zero first); walk = stays }
reached_from {version} {file} {first} (goes {p = p} {st = st} n st' r e) =
    let F = reached_from r in
    let q : drop F.bytes (drop first file) ≡ drop p file = drop-drop F.bytes first file ∙ ap (λ (k : ℕ). drop k file) (sym F.place) in
    record {
      made_so_far = F.made_so_far ++ [];
      bytes = F.bytes + (n + 0);
      place = omega (arith, F.place);
      walk = goes_then F.walk (past n st' (ap (λ (x : List ℕ). next version x st) q ∙ e) stays);
    }
reached_from {version} {file} {first} (makes {p = p} {st = st} n rec st' r e) =
    let F = reached_from r in
    let q : drop F.bytes (drop first file) ≡ drop p file = drop-drop F.bytes first file ∙ ap (λ (k : ℕ). drop k file) (sym F.place) in
    record {
      made_so_far = F.made_so_far ++ (rec ∷ []);
      bytes = F.bytes + (n + 0);
      place = omega (arith, F.place);
      walk = goes_then F.walk (adds n rec st' (ap (λ (x : List ℕ). next version x st) q ∙ e) stays);
    }

pub reached_one : {version : ℕ} {file : List ℕ} {first p : ℕ} {a b : State} → Reached version file first p a → Reached version file first p b → a ≡ b
reached_one {version} {file} {first} {p} {a} {b} x y =
    let F = reached_from x in
    let G = reached_from y in
    let e : F.bytes ≡ G.bytes = omega (arith, F.place, G.place) in
    goes_one F.walk (drop first file) start b G.made_so_far G.bytes refl refl e G.walk

-- ---- parts of a list of records

formed_take : (j : ℕ) (rs : List Record) → AllWellFormed rs → AllWellFormed (take j rs)
formed_take zero rs w = tt
formed_take (suc j) [] w = tt
formed_take (suc j) (r ∷ rs) w = (w.0, formed_take j rs w.1)

pub formed_drop : (j : ℕ) (rs : List Record) → AllWellFormed rs → AllWellFormed (drop j rs)
formed_drop zero rs w = w
formed_drop (suc j) [] w = tt
formed_drop (suc j) (r ∷ rs) w = formed_drop j rs w.1

formed_append : (rs ts : List Record) → AllWellFormed rs → AllWellFormed ts → AllWellFormed (rs ++ ts)
formed_append [] ts w v = v
formed_append (r ∷ rs) ts w v = (w.0, formed_append rs ts w.1 v)

pub sayable_take : (j n : ℕ) (st : State) (rs : List Record) → records_verdict v8 n st rs ≡ Good → records_verdict v8 n st (take j rs) ≡ Good
unfolding records_verdict pick
sayable_take zero n st rs e = refl
sayable_take (suc j) n st [] e = refl
sayable_take (suc j) n st (r ∷ rs) e = let s = able v8 n st r rs e in rw s.0 (sayable_take j (n + 1) (after st r) rs s.1)

-- ---- reading the codes of records makes them, and leaves the state that writing leaves

codes_all_go : (rs : List Record) (n : ℕ) (st : State) → length st.label ≤ label_limit → AllWellFormed rs → records_verdict v8 n st rs ≡ Good → (rest : List ℕ)
    → Goes 8 (codes_all v8 st rs ++ rest) st rs (length (codes_all v8 st rs)) (after_all v8 st rs)
unfolding codes_all after_all
codes_all_go [] n st h w e rest = stays
codes_all_go (r ∷ rs) n st h w e rest =
    let s = able v8 n st r rs e in
    let more = codes_all v8 (after st r) rs in
    goes_as (sym (append_assoc (codes st r) more rest)) (sym (length-append (codes st r) more))
    (goes_append (codes st r) (more ++ rest) (codes_go st r h w.0 s.0 (more ++ rest))
    (codes_all_go rs (n + 1) (after st r) (after_short st r h w.0) w.1 s.1 rest))

-- ---- a file from a record on

module _ (h : Header) (rs : List Record) (j : ℕ) where
  -- what stands before the codes of record j, and what stands from them on
  abbrev pub front : List ℕ
  front = header_codes h ++ codes_all v8 start (take j rs)

  abbrev pub found : State
  found = after_all v8 start (take j rs)

  abbrev pub from_there : List ℕ
  from_there = encode_all v8 found (drop j rs)

  parts : file_of v8 h rs ≡ header_codes h ++ (codes_all v8 start (take j rs) ++ from_there)
  unfolding file_of
  parts =
      ap (λ (x : List ℕ). header_codes h ++ x)
      (ap (encode_all v8 start) (sym (take-append-drop j rs)) ∙ encode_append v8 (take j rs) (drop j rs) start)

  joined : file_of v8 h rs ≡ front ++ from_there
  joined = parts ∙ sym (append_assoc (header_codes h) (codes_all v8 start (take j rs)) from_there)

  pub from_record : drop (codes_place h rs j) (file_of v8 h rs) ≡ from_there
  unfolding codes_place
  from_record = rw joined (drop-append_seam front from_there)

  pub before_record : take (codes_place h rs j) (file_of v8 h rs) ≡ front
  unfolding codes_place
  before_record = rw joined (take_at front from_there (length front) refl)

  -- the state that reading has reached there is the state that writing had
  pub finds_found : AllWellFormed rs → records_verdict v8 0 start rs ≡ Good → Finds h rs j found
  unfolding codes_place
  finds_found w e =
      let H = header_codes h in
      let C = codes_all v8 start (take j rs) in
      let walk = codes_all_go (take j rs) 0 start (omega arith) (formed_take j rs w) (sayable_take j 0 start rs e) from_there in
      let q : C ++ from_there ≡ drop (length H) (file_of v8 h rs) = sym (rw parts (drop-append_seam H (C ++ from_there))) in
      subst (λ (p : ℕ). Reached 8 (file_of v8 h rs) (length H) p found) (sym (length-append H C)) (goes_reached (goes_as q refl walk) begins)

-- ---- the edited records

module _ (rs new : List Record) (first count : ℕ) (fits : first + count ≤ length rs) where
  head_length : length (take first rs) ≡ first
  head_length = length-take-le first rs (omega arith)

  -- a record after the run, in the edited list
  abbrev pub moved_to : ℕ → ℕ
  moved_to j = first + (length new + (j - (first + count)))

  pub after_run : (j : ℕ) → first + count ≤ j → drop (moved_to j) (edited rs first count new) ≡ drop j rs
  unfolding edited
  after_run j h =
      let i = j - (first + count) in
      let z : first + count + i ≡ j = omega arith in
      ap (λ (k : ℕ). drop (k + (length new + i)) (take first rs ++ (new ++ drop (first + count) rs))) (sym head_length)
      ∙ drop-append-add (take first rs) (new ++ drop (first + count) rs) (length new + i)
      ∙ drop-append-add new (drop (first + count) rs) i
      ∙ drop-drop i (first + count) rs
      ∙ ap (λ (k : ℕ). drop k rs) z

  pub before_run : take first (edited rs first count new) ≡ take first rs
  unfolding edited
  before_run = take_at (take first rs) (new ++ drop (first + count) rs) first head_length

  pub edited_formed : AllWellFormed rs → AllWellFormed new → AllWellFormed (edited rs first count new)
  unfolding edited
  edited_formed w v = formed_append (take first rs) _ (formed_take first rs w) (formed_append new _ v (formed_drop (first + count) rs w))

-- ---- demand 3: a house-written file, a run within it and well-formed records for it

module _ (file new : List ℕ) (file_bytes : Bytes file) (new-bytes : Bytes new) (first count v p : ℕ) (h : Header) (rs ns : List Record)
    (opens : opening_of file ≡ opened v p h) (reads : items_of v p file ≡ record { records = rs; verdict = Good }) (house : house_written file h rs ≡ true)
    (fits : first + count ≤ length rs) (formed : records_of sheet_version new ≡ record { records = ns; verdict = Good }) where
  abbrev after_edit : List Record
  after_edit = edited rs first count ns

  file_is : file ≡ file_of v8 h rs
  unfolding house_written
  file_is = same_true file (file_of v8 h rs) house

  old_formed : AllWellFormed rs
  old_formed = subst (λ (x : Result). AllWellFormed x.records) reads (items_formed v p file file_bytes)

  old_sayable : records_verdict v8 0 start rs ≡ Good
  old_sayable = subst (λ (x : Result). records_verdict v8 0 start x.records ≡ Good) reads (items_sayable v p file file_bytes)

  all_formed : AllWellFormed after_edit
  all_formed = edited_formed rs ns first count fits old_formed
      (subst (λ (x : Result). AllWellFormed x.records) formed (records_formed sheet_version new new-bytes))

  whole : Result
  whole = record { records = after_edit; verdict = Good }

  edit_answer : (room : ℕ) → edit_outcome file first count new room ≡ written_outcome v8 h whole room
  unfolding edit_outcome edit_result edit_verdict house_verdict run_verdict pick whole
  edit_answer room = rw (opens, reads, formed, house, le-ltb (length rs) (first + count) fits)

  -- the sheet that is the old file's with the replacement where the run stood
  abbrev pub sheet_after : List ℕ
  sheet_after = sheet_of sheet_version h after_edit

  back : (sheet_result sheet_after ≡ whole) × (front_header sheet_after ≡ h)
  unfolding whole
  back = sheet_records h (opening_fits file opens).header after_edit all_formed

  -- demand 3, its first half: an edit answers as writing the whole edited sheet afresh into an equal buffer does, in a refusal's number and
  -- place too, and leaves every byte of the buffer as that does
  pub edit_is_write_answer : (room : ℕ) → edit_outcome file first count new room ≡ write_outcome v8 sheet_after room
  unfolding write_outcome
  edit_is_write_answer room = edit_answer room ∙ rw (back.0, back.1)

  pub edit_is_write_buffer : (old : List ℕ) → edit_buffer file first count new old ≡ write_buffer v8 sheet_after old
  unfolding edit_buffer write_buffer whole
  edit_is_write_buffer old = rw (edit_is_write_answer (length old), opens, reads, formed, back.0, back.1)

  -- an accepted edit
  module _ (old : List ℕ) (b n w : ℕ) (accept : edit_outcome file first count new (length old) ≡ accepted b n w) where
    abbrev file_after : List ℕ
    file_after = file_of v8 h after_edit

    written : Writes v8 h whole b n w
    unfolding whole
    written = writes v8 h whole (length old) b n w (sym (edit_answer (length old)) ∙ accept)

    new_sayable : records_verdict v8 0 start after_edit ≡ Good
    unfolding whole
    new_sayable = written.writable

    -- the new file
    pub edited_file : take b (edit_buffer file first count new old) ≡ file_after
    unfolding edit_buffer whole
    edited_file = rw (accept, opens, reads, formed) (writes_file v8 h whole (length old) b n w (sym (edit_answer (length old)) ∙ accept) old)

    -- demand 3: an accepted edit keeps all the old bytes before the run
    pub edit_prefix : take (codes_place h rs first) (take b (edit_buffer file first count new old)) ≡ take (codes_place h rs first) file
    unfolding codes_place
    edit_prefix =
        let q : codes_place h after_edit first ≡ codes_place h rs first = same_place_lem in
        ap (take (codes_place h rs first)) edited_file
        ∙ ap (λ (k : ℕ). take k file_after) (sym q)
        ∙ before_record h after_edit first
        ∙ ap (λ (x : List Record). header_codes h ++ codes_all v8 start x) (before_run rs ns first count fits)
        ∙ sym (before_record h rs first)
        ∙ ap (take (codes_place h rs first)) (sym file_is)
      where
        same_place_lem : codes_place h after_edit first ≡ codes_place h rs first
        same_place_lem = ap (λ (x : List Record). length (header_codes h ++ codes_all v8 start x)) (before_run rs ns first count fits)

    -- demand 3: from each record after the run, and from the closing codes, where they find the same state as before, the new file has exactly
    -- the old bytes to the end
    pub edit_suffix : (j : ℕ) → first + count ≤ j → (st : State) → Finds h rs j st → Finds h after_edit (moved_to rs ns first count fits j) st
        → drop (codes_place h after_edit (moved_to rs ns first count fits j)) (take b (edit_buffer file first count new old)) ≡ drop (codes_place h rs j) file
    edit_suffix j past-run st was is =
        let k = moved_to rs ns first count fits j in
        let e : found h after_edit k ≡ found h rs j = reached_one (finds_found h after_edit k all_formed new_sayable) is
        ∙ reached_one was (finds_found h rs j old_formed old_sayable) in
        ap (drop (codes_place h after_edit k)) edited_file
        ∙ from_record h after_edit k
        ∙ ap₂ (encode_all v8) e (after_run rs ns first count fits j past-run)
        ∙ sym (from_record h rs j)
        ∙ ap (drop (codes_place h rs j)) (sym file_is)
