-- What the summary is for (#109). A question to a summary of a sheet is answered as looking at each of its records answers: the count is the
-- difference of two ranks, and a rank is a total and the ones below it. The next entrance is the least marked record. After an accepted edit the
-- words brought up to date are those made afresh of the new file's sheet, because the marks of the edited records are the edited marks.
-- Assumes nothing.
use Rattle.std.specs.Prelude.{Some, None}
use mathlib.Core.Path.{◌≡◌, refl, sym, ap, ap₂, ◌∙◌, subst}
use mathlib.Core.Bool.{Bool, true, false, ◌||◌}
use mathlib.Core.List.{List, [], ◌∷◌, ◌++◌, map}
use Prim.Native.Nat.{ℕ, zero, suc, ◌+◌, ◌-◌, ◌*◌, ◌/◌, ◌%◌, ◌^◌, ◌≤◌, ◌<◌, max}
use native.Mathlib.Nat.{mod-eq_of_lt, le-max_right}
use native.Mathlib.Omega.{arith}
use lib.Dec.{ltb}
use lib.ListN.{length, get_or, take, drop, length-append, length-drop, length-map}
use lib.Seq.{get_or-drop, take-add, length-take-le}
use borrow.Author.Tests.{ne_eqb, le-ltb, ltb-false}
use Rattle.format.specs.Bytes.{pick, over, Bytes}
use Rattle.format.specs.Header.{Header, opened, opening_of}
use Rattle.format.specs.State.{Record}
use Rattle.format.specs.Refusals.{Result, accepted, Verdict, Good, Refusal}
use Rattle.format.specs.Sheet.{sheet_version, records_of, sheet_result}
use Rattle.format.specs.WellFormed.{GoodHeader}
use Rattle.format.specs.Reading.{items_of, sheet_from}
use Rattle.format.specs.Editing.{edited, edit_outcome, edit_buffer}
use Rattle.format.specs.Summary.{entrance, marks_in, marked, count_of, first_from, next_of, words_for, needed, summary, marks_of, takes, untaken, holds, unheld, summed_from, made_outcome, made_words, summary_outcome, summary_words, outside, looked, rank_in, count_in, entrances_outcome, edited_marks, count_verdict, update_outcome, update_words}
use Rattle.format.proofs.Basics.{pick_false, neither}
use Rattle.format.proofs.HeaderLaws.{opening_fits}
use Rattle.format.proofs.SheetLaws.{sheet_records, records_formed}
use Rattle.format.proofs.GoodRecords.{items_formed}
use Rattle.format.proofs.EditingLaws.{edited_formed}
use Rattle.format.proofs.OurFiles.{Ours, edit_fits, edit_formed, edited_ours}
use Rattle.format.proofs.SummaryWords.{one_two, length_summary, summary_total, summary_front, summary_marks}

-- ---- counts of stretches

marked_le : (ms : List Bool) → marked ms ≤ length ms
unfolding marked
marked_le [] = omega arith
marked_le (b ∷ ms) = omega (arith, marked_le ms, one_two b)

marked_append : (ms ns : List Bool) → marked (ms ++ ns) ≡ marked ms + marked ns
unfolding marked
marked_append [] ns = omega arith
marked_append (b ∷ ms) ns = omega (arith, marked_append ms ns)

pub count_split : (ms : List Bool) (a b : ℕ) → a ≤ b → marked (take b ms) ≡ marked (take a ms) + count_of ms a b
unfolding count_of
count_split ms a b h =
    let e : b ≡ a + (b - a) = omega arith in
    ap (λ (k : ℕ). marked (take k ms)) e ∙ ap marked (take-add a (b - a) ms) ∙ marked_append (take a ms) (take (b - a) (drop a ms))

-- ---- `looked`: the next entrance is the least marked record

first_within : (l : List Bool) (i r : ℕ) → first_from i l ≡ Some r → (i ≤ r) × (r < i + length l) × (get_or l (r - i) false ≡ true) × ((k : ℕ) → k < r - i → get_or l k false ≡ false)
unfolding first_from
first_within [] i r e = absurd (let z : ◌≡◌ {A = ℕ} 0 1 = cc in omega arith)
first_within (true ∷ l) i r e =
    let d : i ≡ r = cc in
    let z : r - i ≡ 0 = omega arith in
    (omega arith, omega arith, ap (λ (k : ℕ). get_or (true ∷ l) k false) z, λ k h. absurd (omega arith))
first_within (false ∷ l) i r e =
    let h = first_within l (suc i) r e in
    let z : r - i ≡ suc (r - suc i) = omega (arith, h.0) in
    (omega (arith, h.0), omega (arith, h.1), ap (λ (k : ℕ). get_or (false ∷ l) k false) z ∙ h.2, below h.3)
  where
    below : ((k : ℕ) → k < r - suc i → get_or l k false ≡ false) → (k : ℕ) → k < r - i → get_or (false ∷ l) k false ≡ false
    below f zero p = refl
    below f (suc k) p = f k (omega arith)

-- "the least marked record at or after a"
pub record Least (ms : List Bool) (a r : ℕ) : Type 0 where
  pub after : a ≤ r
  pub within : r < length ms
  pub marks : get_or ms r false ≡ true
  pub least : (i : ℕ) → a ≤ i → i < r → get_or ms i false ≡ false

pub next_least : (ms : List Bool) (a r : ℕ) → next_of ms a ≡ Some r → Least ms a r
unfolding next_of
next_least ms a r e =
    let h = first_within (drop a ms) a r e in
    let d : a + (r - a) ≡ r = omega (arith, h.0) in
    record {
      after = h.0;
      within = omega (arith, h.0, h.1, length-drop a ms);
      marks = ap (λ (k : ℕ). get_or ms k false) (sym d) ∙ sym (get_or-drop a ms (r - a) false) ∙ h.2;
      least = λ i p q.
          let f : a + (i - a) ≡ i = omega arith in
          ap (λ (k : ℕ). get_or ms k false) (sym f) ∙ sym (get_or-drop a ms (i - a) false) ∙ h.3 (i - a) (omega arith);
    }

none_within : (l : List Bool) (i : ℕ) → first_from i l ≡ None → (k : ℕ) → get_or l k false ≡ false
unfolding first_from
none_within [] i e k = refl
none_within (true ∷ l) i e k = absurd (let z : ◌≡◌ {A = ℕ} 0 1 = cc in omega arith)
none_within (false ∷ l) i e zero = refl
none_within (false ∷ l) i e (suc k) = none_within l (suc i) e k

-- "none" where no record is marked from there on
pub next_none : (ms : List Bool) (a : ℕ) → next_of ms a ≡ None → (i : ℕ) → a ≤ i → get_or ms i false ≡ false
unfolding next_of
next_none ms a e i h =
    let d : a + (i - a) ≡ i = omega arith in
    ap (λ (k : ℕ). get_or ms k false) (sym d) ∙ sym (get_or-drop a ms (i - a) false) ∙ none_within (drop a ms) a e (i - a)

-- ---- a question to a summary of these marks, at the front of the words

module _ (ms : List Bool) (rest : List ℕ) (fits : length ms < 2 ^ 64) where
  abbrev words : List ℕ
  words = summary ms ++ rest

  taken_le : (k : ℕ) → k ≤ length ms → marked (take k ms) ≤ k
  taken_le k h = omega (arith, marked_le (take k ms), length-take-le k ms h)

  pub rank_made : (k : ℕ) → k ≤ length ms → rank_in words (length ms) k ≡ marked (take k ms)
  unfolding rank_in pick marked
  rank_made zero h = refl
  rank_made (suc i) h =
      let k = suc i in
      let d : (k - 1) / 64 * 64 ≡ 64 * ((k - 1) / 64) = omega arith in
      let t : get_or words (words_for (length ms) + (k - 1) / 64) 0 ≡ marked (take ((k - 1) / 64 * 64) ms) =
      summary_front ms rest (words_for (length ms) + (k - 1) / 64) (omega arith) ∙ summary_total ms ((k - 1) / 64) (omega arith)
      ∙ ap (λ (x : ℕ). marked (take x ms)) (sym d) in
      simp (ne_eqb k 0 (λ e. omega arith), summary_marks ms rest)
      (ap (λ (x : ℕ). (x + count_of ms ((k - 1) / 64 * 64) k) % 2 ^ 64) t
      ∙ ap (λ (x : ℕ). x % 2 ^ 64) (sym (count_split ms ((k - 1) / 64 * 64) k (omega arith)))
      ∙ mod-eq_of_lt (omega (arith, taken_le k h)))

  -- the count, from the totals and the words, is that of looking at each record
  pub count_made : (a b : ℕ) → a ≤ b → b ≤ length ms → count_in words (length ms) a b ≡ count_of ms a b
  unfolding count_in
  count_made a b h g =
      let p : rank_in words (length ms) a ≡ marked (take a ms) = rank_made a (omega arith) in
      let q : rank_in words (length ms) b ≡ marked (take b ms) = rank_made b g in
      omega (arith, count_split ms a b h, taken_le b g, taken_le a (omega arith))

  within_made : (a b : ℕ) (t : Bool) → outside (length ms) a b ≡ t
      → pick t (unheld 15 (length ms)) (holds (count_in words (length ms) a b) (next_of (marks_of (length ms) words) a))
      ≡ pick t (unheld 15 (length ms)) (holds (count_of ms a b) (next_of ms a))
  unfolding pick
  within_made a b true e = refl
  within_made a b false e =
      let x = neither (ltb b a) (ltb (length ms) a || ltb (length ms) b) e in
      let y = neither (ltb (length ms) a) (ltb (length ms) b) x.1 in
      ap₂ holds (count_made a b (ltb-false b a x.0) (ltb-false (length ms) b y.1)) (ap (λ (l : List Bool). next_of l a) (summary_marks ms rest))

  -- "must equal the answer of looking at each record, for a summary made from that sheet", refusals too
  pub question_made : (a b : ℕ) → entrances_outcome words (length ms) a b ≡ looked ms a b
  unfolding entrances_outcome looked
  question_made a b =
      pick_false _ _ (le-ltb (length words) (needed (length ms)) (omega (arith, length-append (summary ms) rest, length_summary ms)))
      ∙ within_made a b (outside (length ms) a b) refl

-- ---- the marks of the edited records

map_append : (rs ns : List Record) → map entrance (rs ++ ns) ≡ map entrance rs ++ map entrance ns
map_append [] ns = refl
map_append (r ∷ rs) ns = ap (λ (l : List Bool). entrance r ∷ l) (map_append rs ns)

map_take : (k : ℕ) (rs : List Record) → map entrance (take k rs) ≡ take k (map entrance rs)
map_take zero rs = refl
map_take (suc k) [] = refl
map_take (suc k) (r ∷ rs) = ap (λ (l : List Bool). entrance r ∷ l) (map_take k rs)

map_drop : (k : ℕ) (rs : List Record) → map entrance (drop k rs) ≡ drop k (map entrance rs)
map_drop zero rs = refl
map_drop (suc k) [] = refl
map_drop (suc k) (r ∷ rs) = map_drop k rs

pub length_marks : (rs : List Record) → length (marks_in rs) ≡ length rs
unfolding marks_in
length_marks rs = length-map rs entrance

pub marks_edited : (rs : List Record) (first count : ℕ) (ns : List Record) → marks_in (edited rs first count ns) ≡ edited_marks (marks_in rs) first count (marks_in ns)
unfolding marks_in edited edited_marks
marks_edited rs first count ns =
    map_append (take first rs) (ns ++ drop (first + count) rs)
    ∙ ap₂ ◌++◌ (map_take first rs) (map_append ns (drop (first + count) rs) ∙ ap (λ (l : List Bool). map entrance ns ++ l) (map_drop (first + count) rs))

pub length_edited : (ms : List Bool) (first count : ℕ) (new : List Bool) → first + count ≤ length ms
    → length (edited_marks ms first count new) ≡ length ms - count + length new
unfolding edited_marks
length_edited ms first count new h =
    let c : length (take first ms) ≡ first = length-take-le first ms (omega arith) in
    simp (length-append, c, length-drop) (omega arith)

-- ---- bringing a summary of these records up to date

-- where that is accepted, the words are those made afresh, and as many
module _ (rs ns : List Record) (rest new : List ℕ) (first count k : ℕ) (reads : records_of sheet_version new ≡ record { records = ns; verdict = Good })
    (fits : first + count ≤ length rs) where
  abbrev old : List ℕ
  old = summary (marks_in rs) ++ rest

  abbrev after : Result
  after = record { records = edited rs first count ns; verdict = Good }

  long : length (edited rs first count ns) ≡ length rs - count + length ns
  long =
      sym (length_marks (edited rs first count ns))
      ∙ ap length (marks_edited rs first count ns)
      ∙ length_edited (marks_in rs) first count (marks_in ns) (omega (arith, length_marks rs))
      ∙ ap₂ (λ (n m : ℕ). n - count + m) (length_marks rs) (length_marks ns)

  -- 15 and 12 are no more in question: it is 11 or accepted
  pub update_room : (room : ℕ) → update_outcome (length rs) first count new room
      ≡ summed_from Good (max (needed (length rs)) (needed (length (edited rs first count ns)))) (needed (length (edited rs first count ns))) room
  unfolding update_outcome count_verdict
  update_room room = rw (reads, long, pick_false (Refusal 15 (length rs)) Good (le-ltb (length rs) (first + count) fits)) refl

  abbrev most : ℕ
  most = max (needed (length rs)) (needed (length (edited rs first count ns)))

  room_for : (room : ℕ) (t : Bool) → ltb room most ≡ t → pick t (untaken 11 most) (takes (needed (length (edited rs first count ns)))) ≡ takes k
      → (needed (length (edited rs first count ns)) ≤ room) × (takes (needed (length (edited rs first count ns))) ≡ takes k)
  unfolding pick
  room_for room true q f = absurd (let z : ◌≡◌ {A = ℕ} 0 1 = cc in omega arith)
  room_for room false q f = (omega (arith, ltb-false room most q, le-max_right (needed (length rs)) (needed (length (edited rs first count ns)))), f)

  pub update_made : update_outcome (length rs) first count new (length old) ≡ takes k
      → (made_outcome after (length old) ≡ takes k) × (update_words (length rs) first count new old ≡ made_words after old)
  unfolding update_words
  update_made e =
      let g = room_for (length old) (ltb (length old) most) refl (sym (update_room (length old)) ∙ e) in
      let m : made_outcome after (length old) ≡ takes k = pick_false _ _ (le-ltb (length old) (needed (length (edited rs first count ns))) g.0) ∙ g.1 in
      let marks : marks_of (length rs) old ≡ marks_in rs = ap (λ (n : ℕ). marks_of n old) (sym (length_marks rs)) ∙ summary_marks (marks_in rs) rest in
      (m, rw (e, m, reads, marks, marks_edited rs first count ns) refl)

-- ---- a summary of a sheet

-- a sheet and the words that a summary of it was made in
module _ (sheet : List ℕ) (rs : List Record) (reads : sheet_result sheet ≡ record { records = rs; verdict = Good }) (ws : List ℕ) (k : ℕ)
    (made : summary_outcome sheet (length ws) ≡ takes k) where
  enough : (t : Bool) → ltb (length ws) (needed (length rs)) ≡ t → pick t (untaken 11 (needed (length rs))) (takes (needed (length rs))) ≡ takes k
      → needed (length rs) ≤ length ws
  unfolding pick
  enough true q f = absurd (let z : ◌≡◌ {A = ℕ} 0 1 = cc in omega arith)
  enough false q f = ltb-false (length ws) (needed (length rs)) q

  pub summary_fits : needed (length rs) ≤ length ws
  unfolding summary_outcome
  summary_fits = enough (ltb (length ws) (needed (length rs))) refl (rw reads at made)

  pub summary_is : summary_words sheet ws ≡ summary (marks_in rs) ++ drop (length (summary (marks_in rs))) ws
  unfolding summary_words summary_outcome over
  summary_is = let m = rw reads at made in rw (reads, m) refl

  pub summary_length : length (summary (marks_in rs) ++ drop (length (summary (marks_in rs))) ws) ≡ length ws
  summary_length =
      let e : length (summary (marks_in rs)) ≡ needed (length rs) = length_summary (marks_in rs) ∙ ap needed (length_marks rs) in
      simp (length-append, length-drop) (omega (arith, e, summary_fits))

  -- a question to it is answered as looking at each record answers
  pub question_sheet : length rs < 2 ^ 64 → (a b : ℕ) → entrances_outcome (summary_words sheet ws) (length rs) a b ≡ looked (marks_in rs) a b
  question_sheet fits a b =
      rw (summary_is, sym (length_marks rs)) (question_made (marks_in rs) (drop (length (summary (marks_in rs))) ws) (subst (λ (n : ℕ). n < 2 ^ 64) (sym (length_marks rs)) fits) a b)

-- ---- "After an accepted edit the old sheet's summary is brought up to date in its place .. and it must equal one made afresh"

-- the old file opens, and the edit is accepted
module _ (file : List ℕ) (first count : ℕ) (new out : List ℕ) (b n w v p : ℕ) (h : Header) (opens : opening_of file ≡ opened v p h)
    (accept : edit_outcome file first count new (length out) ≡ accepted b n w) (file_bytes : Bytes file) (new-bytes : Bytes new) where
  abbrev rs_before : List Record
  rs_before = (items_of v p file).records

  abbrev rs_after : List Record
  rs_after = edited rs_before first count (records_of sheet_version new).records

  abbrev edited_file : List ℕ
  edited_file = take b (edit_buffer file first count new out)

  abbrev sheet_before : List ℕ
  sheet_before = sheet_from (opening_of file) file

  abbrev sheet_after : List ℕ
  sheet_after = sheet_from (opening_of edited_file) edited_file

  ours : Ours edited_file h rs_after
  ours = edited_ours file first count new out b n w v p h opens accept file_bytes new-bytes

  run_fits : first + count ≤ length rs_before
  run_fits = edit_fits file first count new out b n w v p h opens accept

  new_reads : records_of sheet_version new ≡ record { records = (records_of sheet_version new).records; verdict = Good }
  new_reads = ap (λ (x : Verdict). record { records = (records_of sheet_version new).records; verdict = x }) (edit_formed file first count new out b n w v p h opens accept)

  header_good : GoodHeader h
  header_good = (opening_fits file opens).header

  before_reads : sheet_result sheet_before ≡ record { records = rs_before; verdict = Good }
  before_reads = rw opens (sheet_records h header_good rs_before (items_formed v p file file_bytes)).0

  after_reads : sheet_result sheet_after ≡ record { records = rs_after; verdict = Good }
  after_reads =
      let f = edited_formed rs_before (records_of sheet_version new).records first count run_fits (items_formed v p file file_bytes) (records_formed sheet_version new new-bytes) in
      rw (ours.opens, ours.reads) (sheet_records h header_good rs_after f).0

  -- nothing but 11 stands in its way
  pub edit_update_answer : (room : ℕ) → update_outcome (length rs_before) first count new room
      ≡ summed_from Good (max (needed (length rs_before)) (needed (length rs_after))) (needed (length rs_after)) room
  edit_update_answer = update_room rs_before (records_of sheet_version new).records [] new first count 0 new_reads run_fits

  -- the words brought up to date are those that making gives for the new file's sheet, and as many
  pub edit_update : (ws : List ℕ) (k m : ℕ) → summary_outcome sheet_before (length ws) ≡ takes k → update_outcome (length rs_before) first count new (length ws) ≡ takes m
      → (summary_outcome sheet_after (length ws) ≡ takes m)
      × (update_words (length rs_before) first count new (summary_words sheet_before ws) ≡ summary_words sheet_after (summary_words sheet_before ws))
  unfolding summary_outcome summary_words
  edit_update ws k m made update =
      let long = summary_length sheet_before rs_before before_reads ws k made in
      let is = summary_is sheet_before rs_before before_reads ws k made in
      let rest = drop (length (summary (marks_in rs_before))) ws in
      let x = update_made rs_before (records_of sheet_version new).records rest new first count m new_reads run_fits
      (ap (λ (r : ℕ). update_outcome (length rs_before) first count new r) long ∙ update) in
      let a : made_outcome (sheet_result sheet_after) (length ws) ≡ takes m = rw (after_reads, sym long) x.0 in
      (a, rw (is, after_reads) x.1)
