-- What an accepted write or edit leaves is a file that "These rules would have produced": it opens, reads back as the records written, and
-- is exactly what they give for its sheet, so an edit of it never answers 14. Assumes nothing.
use Prim.Native.Nat.{ℕ, ◌+◌, ◌≤◌}
use native.Mathlib.Omega.{arith}
use mathlib.Core.Path.{◌≡◌, refl, sym, ap, ◌∙◌}
use mathlib.Core.List.{List, [], ◌∷◌, ◌++◌}
use mathlib.Core.Bool.{Bool, true, false}
use lib.ListN.{length, take}
use lib.Dec.{ltb}
use borrow.Author.Tests.{ltb-false}
use Rattle.format.specs.Bytes.{pick, same, Bytes}
use Rattle.format.specs.Header.{Header, Opening, shut, opened, opening_of}
use Rattle.format.specs.State.{State, start, Record}
use Rattle.format.specs.Sheet.{sheet_version, Entry, flawed, entry, entry_of, entry_step, records_step, records_from, records_of, sheet_result, front_header}
use Rattle.format.specs.Refusals.{Result, stop, or_else, accepted, refused, outcome_of, buffer_of, Verdict, Good, Refusal}
use Rattle.format.specs.WellFormed.{GoodHeader, AllWellFormed}
use Rattle.format.specs.Reading.{items_of}
use Rattle.format.specs.Codes.{header_codes}
use Rattle.format.specs.Writing.{Writer, v8, encode_all, file_of, records_verdict, size_verdict, writing_verdict, filed_outcome, written_outcome}
use Rattle.format.specs.Writing.{write_outcome, write_buffer}
use Rattle.format.specs.Editing.{house_written, edited, house_verdict, run_verdict, edit_verdict, edit_result, edit_from, edit_outcome, edit_buffer}
use Rattle.format.proofs.Basics.{pick_case, second_picked, same_true, same_refl}
use Rattle.format.proofs.IterateLaws.{iter_ind}
use Rattle.format.proofs.HeaderLaws.{opening_fits, opening_read}
use Rattle.format.proofs.SheetLaws.{records_formed}
use Rattle.format.proofs.GoodRecords.{items_formed}
use Rattle.format.proofs.RoundTrip.{both_good, Writes, writes, writes_file, written_opens, written_items, sheet_is, file_written}
use Rattle.format.proofs.EditingLaws.{edited_formed}

-- ---- a file that is exactly what our writer gives for a header and records

pub record Ours (file : List ℕ) (h : Header) (rs : List Record) : Type 0 where
  pub opens : opening_of file ≡ opened 8 (length (header_codes h)) h
  pub reads : items_of 8 (length (header_codes h)) file ≡ record { records = rs; verdict = Good }
  pub house : house_written file h rs ≡ true

pub file_ours : (h : Header) → GoodHeader h → (x : Result) (b n v : ℕ) → AllWellFormed x.records → Writes v8 h x b n v
    → Ours (file_of v8 h x.records) h x.records
unfolding house_written
file_ours h g x b n v f W =
    let rs = x.records in
    record {
      opens = written_opens h g rs f W.writable W.small;
      reads = written_items h g rs f W.writable W.small;
      house = same_refl (file_of v8 h rs);
    }

-- what an edit of such a file is to write: 14 is not among what may be wrong
unfoldable pub to_write : List Record → ℕ → ℕ → List ℕ → Result
to_write rs first count new =
    record {
      records = edited rs first count (records_of sheet_version new).records;
      verdict = or_else (run_verdict rs first count) (records_of sheet_version new).verdict;
    }

module _ {file : List ℕ} {h : Header} {rs : List Record} (ours : Ours file h rs) (first count : ℕ) (new : List ℕ) where
  pub ours_edit : (room : ℕ) → edit_outcome file first count new room ≡ written_outcome v8 h (to_write rs first count new) room
  unfolding edit_outcome edit_result edit_verdict house_verdict pick to_write
  ours_edit room = rw (ours.opens, ours.reads, ours.house)

  pub ours_edit_buffer : (old : List ℕ)
      → edit_buffer file first count new old
      ≡ buffer_of (written_outcome v8 h (to_write rs first count new) (length old)) (file_of v8 h (to_write rs first count new).records) old
  unfolding edit_buffer to_write
  ours_edit_buffer old = rw (ours_edit (length old), ours.opens, ours.reads)

-- ---- what an accepted write leaves

pub written_ours : (sheet : List ℕ) → Bytes sheet → (old : List ℕ) (b n v : ℕ) → write_outcome v8 sheet (length old) ≡ accepted b n v
    → Ours (take b (write_buffer v8 sheet old)) (front_header sheet) (sheet_result sheet).records
unfolding write_outcome
written_ours sheet bytes old b n v e =
    let s = sheet_is sheet bytes old b n v e in
    rw (file_written sheet bytes old b n v e)
    (file_ours (front_header sheet) s.header (sheet_result sheet) b n v s.formed (writes v8 (front_header sheet) (sheet_result sheet) (length old) b n v e))

-- ---- what an accepted edit leaves

-- that a file opened
pub record Opens (file : List ℕ) : Type 0 where
  pub version : ℕ
  pub place : ℕ
  pub header : Header
  pub opens : opening_of file ≡ opened version place header

pub edit_opens : (file : List ℕ) (first count : ℕ) (new : List ℕ) (room b n w : ℕ) → edit_outcome file first count new room ≡ accepted b n w → Opens file
unfolding edit_outcome
edit_opens file first count new room b n w e = go (opening_of file) refl e
  where
    go : (o : Opening) → opening_of file ≡ o → edit_from o file first count new room ≡ accepted b n w → Opens file
    go (shut k p) q e = absurd (let z : ◌≡◌ {A = ℕ} 0 1 = cc in omega arith)
    go (opened v p h) q e = record { version = v; place = p; header = h; opens = q }

run_fits : (rs : List Record) (first count : ℕ) → run_verdict rs first count ≡ Good → first + count ≤ length rs
unfolding run_verdict
run_fits rs first count e = ltb-false _ _ (second_picked (λ q. let z : ◌≡◌ {A = ℕ} 0 1 = cc in omega arith) e).0

module _ (file : List ℕ) (first count : ℕ) (new old : List ℕ) (b n w v p : ℕ) (h : Header) (opens : opening_of file ≡ opened v p h)
    (accept : edit_outcome file first count new (length old) ≡ accepted b n w) where
  abbrev rs : List Record
  rs = (items_of v p file).records

  abbrev asked : Result
  asked = edit_result file h (items_of v p file) first count (records_of sheet_version new)

  answer : written_outcome v8 h asked (length old) ≡ accepted b n w
  unfolding edit_outcome
  answer = rw opens at accept

  given_good : (run_verdict rs first count ≡ Good) × ((records_of sheet_version new).verdict ≡ Good)
  unfolding edit_result edit_verdict
  given_good =
      let x = both_good (items_of v p file).verdict _ (writes v8 h asked (length old) b n w answer).given in
      let y = both_good (house_verdict file h rs) _ x.1 in
      both_good (run_verdict rs first count) _ y.1

  pub edit_fits : first + count ≤ length rs
  edit_fits = run_fits rs first count given_good.0

  pub edit_formed : (records_of sheet_version new).verdict ≡ Good
  edit_formed = given_good.1

  pub edited_ours : Bytes file → Bytes new → Ours (take b (edit_buffer file first count new old)) h (edited rs first count (records_of sheet_version new).records)
  unfolding edit_buffer edit_result
  edited_ours file_bytes new-bytes =
      let f = edited_formed rs (records_of sheet_version new).records first count edit_fits (items_formed v p file file_bytes)
      (records_formed sheet_version new new-bytes) in
      rw (accept, opens, writes_file v8 h asked (length old) b n w answer old)
      (file_ours h (opening_fits file opens).header asked b n w f (writes v8 h asked (length old) b n w answer))

-- ---- an edit of it never answers 14

-- not the refusal with a number
abbrev pub IsNot : ℕ → Verdict → Type 0
IsNot k Good = Unit
IsNot k (Refusal n p) = n ≡ k → ⊥

module _ (k : ℕ) where
  or_else_not : (v w : Verdict) → IsNot k v → IsNot k w → IsNot k (or_else v w)
  or_else_not Good w x y = y
  or_else_not (Refusal n p) w x y = x

  entry_not : (12 ≡ k → ⊥) → (it : Entry) (n : ℕ) (go : ℕ → ℕ → Result) → ((a m : ℕ) → IsNot k (go a m).verdict) → IsNot k (entry_step it n go).verdict
  entry_not h flawed n go f = h
  entry_not h (entry a r) n go f = f a (n + 1)

  pub records_not : (12 ≡ k → ⊥) → (version : ℕ) (s : List ℕ) → IsNot k (records_of version s).verdict
  unfolding records_of records_from records_step
  records_not h version s =
      iter_ind (records_step version) (λ p. stop Good) (λ u m x. IsNot k x.verdict) (λ p u m. tt)
      (λ p u m go f. pick_case (λ (x : Result). IsNot k x.verdict) _ _ _ (λ e. tt) (λ e. entry_not h (entry_of version u) m go (λ a j. f a j))) 0 s 0

  unable_not : (w : Writer) → (w.number ≡ k → ⊥) → (n : ℕ) (st : State) (rs : List Record) → IsNot k (records_verdict w n st rs)
  unfolding records_verdict
  unable_not w h n st [] = tt
  unable_not w h n st (r ∷ rs) = pick_case (IsNot k) _ _ _ (λ e. h) (λ e. unable_not w h (n + 1) (w.after st r) rs)

  size_not : (16 ≡ k → ⊥) → (n : ℕ) → IsNot k (size_verdict n)
  unfolding size_verdict
  size_not h n = pick_case (IsNot k) _ _ _ (λ e. h) (λ e. tt)

  run_not : (15 ≡ k → ⊥) → (rs : List Record) (first count : ℕ) → IsNot k (run_verdict rs first count)
  unfolding run_verdict
  run_not h rs first count = pick_case (IsNot k) _ _ _ (λ e. h) (λ e. tt)

  outcome_not : (11 ≡ k → ⊥) → (v : Verdict) (bytes records version room p : ℕ) → IsNot k v → outcome_of v bytes records version room ≡ refused k p → ⊥
  unfolding pick
  outcome_not h (Refusal n q) bytes records version room p x e = x cc
  outcome_not h Good bytes records version room p x e = go (ltb room bytes) e
    where
      go : (t : Bool) → pick t (refused 11 bytes) (accepted bytes records version) ≡ refused k p → ⊥
      go true e = h cc
      go false e = let z : ◌≡◌ {A = ℕ} 0 1 = cc in omega arith

-- no writer answers 14, but for what it was given and the number that it refuses a record with
pub written_not : (w : Writer) → (w.number ≡ 14 → ⊥) → (h : Header) (x : Result) (room p : ℕ) → IsNot 14 x.verdict
    → written_outcome w h x room ≡ refused 14 p → ⊥
unfolding written_outcome filed_outcome
written_not w k h x room p n e =
    let s = records_verdict w 0 start x.records in
    let size = length (file_of w h x.records) in
    let rest = or_else_not 14 s (size_verdict size) (unable_not 14 w k 0 start x.records) (size_not 14 (λ q. omega arith) size) in
    outcome_not 14 (λ q. omega arith) (writing_verdict w x size) size (length x.records) w.version room p
    (or_else_not 14 x.verdict (or_else s (size_verdict size)) n rest) e

pub never_14 : {file : List ℕ} {h : Header} {rs : List Record} → Ours file h rs → (first count : ℕ) (new : List ℕ) (room p : ℕ)
    → edit_outcome file first count new room ≡ refused 14 p → ⊥
unfolding to_write
never_14 {h = h} {rs} ours first count new room p e =
    written_not v8 (λ q. omega arith) h (to_write rs first count new) room p
    (or_else_not 14 (run_verdict rs first count) (records_of sheet_version new).verdict (run_not 14 (λ q. omega arith) rs first count)
    (records_not 14 (λ q. omega arith) sheet_version new))
    (sym (ours_edit ours first count new room) ∙ e)

pub written_never_14 : (sheet : List ℕ) → Bytes sheet → (old : List ℕ) (b n v : ℕ) → write_outcome v8 sheet (length old) ≡ accepted b n v
    → (first count : ℕ) (new : List ℕ) (room p : ℕ) → edit_outcome (take b (write_buffer v8 sheet old)) first count new room ≡ refused 14 p → ⊥
written_never_14 sheet bytes old b n v e = never_14 (written_ours sheet bytes old b n v e)

pub edited_never_14 : (file : List ℕ) (first count : ℕ) (new old : List ℕ) (b n w : ℕ) → Bytes file → Bytes new
    → edit_outcome file first count new (length old) ≡ accepted b n w
    → (first' count' : ℕ) (new' : List ℕ) (room p : ℕ) → edit_outcome (take b (edit_buffer file first count new old)) first' count' new' room ≡ refused 14 p → ⊥
edited_never_14 file first count new old b n w file_bytes new-bytes e =
    let o = edit_opens file first count new (length old) b n w e in
    never_14 (edited_ours file first count new old b n w o.version o.place o.header o.opens e file_bytes new-bytes)

-- ---- "An edit still takes only v8: a v7 file that reads well gets 14, even one written here" (#110)

other_version_not_ours : (file : List ℕ) {v p : ℕ} {h : Header} → opening_of file ≡ opened v p h → (v ≡ 8 → ⊥) → (xs : List Record)
    → house_written file h xs ≡ false
unfolding house_written file_of
other_version_not_ours file {v} {p} {h} opens other xs = go (same file (file_of v8 h xs)) refl
  where
    go : (b : Bool) → same file (file_of v8 h xs) ≡ b → b ≡ false
    go false e = refl
    go true e =
        let f = opening_fits file opens in
        let q : file ≡ header_codes h ++ encode_all v8 start xs = same_true file (file_of v8 h xs) e in
        let l : length (header_codes h ++ encode_all v8 start xs) ≤ 16777216 = rw q at f.few in
        let o : opened v p h ≡ opened 8 (length (header_codes h)) h = sym opens ∙ ap opening_of q ∙ opening_read h f.header (encode_all v8 start xs) l in
        absurd (other (let z : v ≡ 8 = cc in z))

pub other_version_14 : (file : List ℕ) {v p : ℕ} {h : Header} → opening_of file ≡ opened v p h → (v ≡ 8 → ⊥) → (items_of v p file).verdict ≡ Good
    → (first count : ℕ) (new : List ℕ) (room : ℕ) → edit_outcome file first count new room ≡ refused 14 0
unfolding edit_outcome edit_result edit_verdict house_verdict written_outcome filed_outcome pick
other_version_14 file {v} {p} opens other good first count new room =
    rw opens (rw good (rw (other_version_not_ours file opens other (items_of v p file).records)))
