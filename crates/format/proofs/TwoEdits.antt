-- #114, "Two people, one file": of two runs that share no record, neither of them empty, either may be corrected first. The idea: what an
-- accepted edit leaves is house-written (`edited_ours`), so a second edit of it writes the twice edited records, and these are one list in
-- either order (`either_first`). So once both first edits are accepted the second ones agree in everything: answer, refusal, every byte of the
-- buffer. Assumes nothing.
use Prim.Native.Nat.{ℕ, ◌+◌, ◌-◌, ◌≤◌, ◌<◌}
use native.Mathlib.Omega.{arith}
use mathlib.Core.Path.{◌≡◌, sym, ap, ◌∙◌}
use mathlib.Core.List.{List, ◌++◌, append_assoc}
use lib.ListN.{length, take, drop, length-append, length-drop}
use lib.Seq.{drop-drop, take-append-le, drop-append-le, take-append-add, drop-append-add, length-take-le, take-take, take-add, drop_at}
use borrow.Author.Tests.{le-ltb}
use Rattle.format.specs.Bytes.{pick, Bytes}
use Rattle.format.specs.Header.{Header}
use Rattle.format.specs.State.{Record}
use Rattle.format.specs.Sheet.{sheet_version, records_of}
use Rattle.format.specs.Refusals.{Result, buffer_of, Good}
use Rattle.format.specs.Reading.{items_of}
use Rattle.format.specs.Writing.{v8, file_of, written_outcome}
use Rattle.format.specs.Editing.{edited, run_verdict}
use Rattle.format.specs.TwoEdits.{Correction, ShareNone, shifted_number, shifted, correction_outcome, correction_buffer, Corrects, OrderFree}
use Rattle.format.proofs.Basics.{less_or_not}
use Rattle.format.proofs.RoundTrip.{writes_file}
use Rattle.format.proofs.OurFiles.{Ours, to_write, ours_edit, ours_edit_buffer, Opens, edit_opens, edit_fits, edit_formed, edited_ours}

-- ---- the records: both runs replaced

-- the records that a correction puts in, and the records that it leaves
abbrev new_records : Correction → List Record
new_records c = (records_of sheet_version c.new).records

abbrev corrected : List Record → Correction → List Record
corrected rs c = edited rs c.first c.count (new_records c)

module _ (rs : List Record) (a b : Correction) (apart : a.first + a.count ≤ b.first) (fits : b.first + b.count ≤ length rs) where
  abbrev end_a : ℕ
  end_a = a.first + a.count

  abbrev gap : ℕ
  gap = b.first - end_a

  -- what stands before the earlier run, between the two, and behind the later one
  abbrev before : List Record
  before = take a.first rs

  abbrev between : List Record
  between = take gap (drop end_a rs)

  abbrev behind : List Record
  behind = drop (b.first + b.count) rs

  abbrev twice : List Record
  twice = before ++ (new_records a ++ (between ++ (new_records b ++ behind)))

  before_length : length before ≡ a.first
  before_length = length-take-le a.first rs (omega arith)

  until_length : length (take b.first rs) ≡ b.first
  until_length = length-take-le b.first rs (omega arith)

  earlier_first : corrected (corrected rs a) (shifted a b) ≡ twice
  unfolding edited shifted_number
  earlier_first =
      let xs = new_records a in
      let D = drop end_a rs in
      let shift = shifted_number a b in
      let e : shift ≡ length before + (length xs + gap) = omega (arith, before_length) in
      let f : shift + b.count ≡ length before + (length xs + (gap + b.count)) = omega (arith, before_length) in
      let g : end_a + (gap + b.count) ≡ b.first + b.count = omega arith in
      let front : take shift (before ++ (xs ++ D)) ≡ before ++ (xs ++ between) =
      rw (e, take-append-add before (xs ++ D) (length xs + gap), take-append-add xs D gap) in
      let back : drop (shift + b.count) (before ++ (xs ++ D)) ≡ behind =
      rw (
        f,
        drop-append-add before (xs ++ D) (length xs + (gap + b.count)),
        drop-append-add xs D (gap + b.count),
        drop-drop (gap + b.count) end_a rs,
        g,
      ) in
      rw (front, back) (simp append_assoc)

  later_first : corrected (corrected rs b) a ≡ twice
  unfolding edited
  later_first =
      let Y = take b.first rs in
      let Z = new_records b ++ behind in
      let l = until_length in
      let g : end_a + gap ≡ b.first = omega arith in
      let front : take a.first (Y ++ Z) ≡ before =
      take-append-le a.first Y Z (omega (arith, l)) ∙ take-take a.first b.first rs (omega arith) in
      let split : Y ≡ take end_a rs ++ between = ap (λ (n : ℕ). take n rs) (sym g) ∙ take-add end_a gap rs in
      let cut : drop end_a Y ≡ between = ap (drop end_a) split ∙ drop_at (take end_a rs) between end_a (length-take-le end_a rs (omega arith)) in
      let back : drop end_a (Y ++ Z) ≡ between ++ Z = drop-append-le end_a Y Z (omega (arith, l)) ∙ ap (λ (u : List Record). u ++ Z) cut in
      rw (front, back)

  -- either order leaves the same records
  either_first : corrected (corrected rs a) (shifted a b) ≡ corrected (corrected rs b) a
  either_first = earlier_first ∙ sym later_first

  -- and finds the second run within the file
  shifted_fits : shifted_number a b + b.count ≤ length (corrected rs a)
  unfolding edited shifted_number
  shifted_fits = simp (length-append, length-drop) (omega (arith, before_length))

  first_fits : a.first + a.count ≤ length (corrected rs b)
  unfolding edited
  first_fits = simp (length-append, length-drop) (omega (arith, until_length))

-- ---- the runs

-- of two runs that share no record, the second not empty, the one that begins earlier ends where the other begins, or before
pub earlier_ends : (a b : Correction) → a.first ≤ b.first → 0 < b.count → ShareNone a b → a.first + a.count ≤ b.first
earlier_ends a b order some none =
    less_or_not b.first (a.first + a.count) (λ h. absurd (none b.first (order, h) (omega arith, omega arith))) (λ h. h)

-- ---- a correction of a house-written file

-- the file that it leaves is that of the corrected records
corrected_file : {file : List ℕ} {h : Header} {rs : List Record} → Ours file h rs → (c : Correction) (new : List ℕ) → Corrects file c new
    → new ≡ file_of v8 h (corrected rs c)
unfolding to_write
corrected_file {h = h} {rs} ours c new x =
    let room = length x.old in
    let w = to_write rs c.first c.count c.new in
    let q = sym (ours_edit ours c.first c.count c.new room) ∙ x.accept in
    x.front
    ∙ rw (ours_edit_buffer ours c.first c.count c.new x.old, q)
    (writes_file v8 h w room x.bytes x.records x.version q x.old)

-- ---- two corrections, in either order

module _ (file : List ℕ) (file_bytes : Bytes file) (opening : Opens file) (c : Correction) (new : List ℕ) (C : Corrects file c new) where
  abbrev header : Header
  header = opening.header

  abbrev old_records : List Record
  old_records = (items_of opening.version opening.place file).records

  accepted_ours : Bytes c.new → Ours new header (corrected old_records c)
  accepted_ours new-bytes =
      rw C.front
      (edited_ours file c.first c.count c.new C.old C.bytes C.records C.version opening.version opening.place header
      opening.opens C.accept file_bytes new-bytes)

  accepted_fits : c.first + c.count ≤ length old_records
  accepted_fits =
      edit_fits file c.first c.count c.new C.old C.bytes C.records C.version opening.version opening.place header
      opening.opens C.accept

  accepted_formed : (records_of sheet_version c.new).verdict ≡ Good
  accepted_formed =
      edit_formed file c.first c.count c.new C.old C.bytes C.records C.version opening.version opening.place header
      opening.opens C.accept

module _ (file : List ℕ) (a b : Correction) (one other : List ℕ) (file_bytes : Bytes file) (a-bytes : Bytes a.new) (b-bytes : Bytes b.new)
    (apart : a.first + a.count ≤ b.first) (A : Corrects file a one) (B : Corrects file b other) where
  opening : Opens file
  opening = edit_opens file a.first a.count a.new (length A.old) A.bytes A.records A.version A.accept

  abbrev h : Header
  h = opening.header

  abbrev rs : List Record
  rs = (items_of opening.version opening.place file).records

  one_ours : Ours one h (corrected rs a)
  one_ours = accepted_ours file file_bytes opening a one A a-bytes

  other_ours : Ours other h (corrected rs b)
  other_ours = accepted_ours file file_bytes opening b other B b-bytes

  fits : b.first + b.count ≤ length rs
  fits = accepted_fits file file_bytes opening b other B

  same_to_write : to_write (corrected rs a) (shifted_number a b) b.count b.new ≡ to_write (corrected rs b) a.first a.count a.new
  unfolding to_write run_verdict pick
  same_to_write =
      rw (
        either_first rs a b apart fits,
        accepted_formed file file_bytes opening a one A,
        accepted_formed file file_bytes opening b other B,
        le-ltb _ _ (shifted_fits rs a b apart fits),
        le-ltb _ _ (first_fits rs a b apart fits),
      )

  -- where each correction is accepted of the file itself, the second ones of both orders agree: in the answer, refusals too ..
  pub same_answer : (room : ℕ) → correction_outcome one (shifted a b) room ≡ correction_outcome other a room
  same_answer room =
      ours_edit one_ours (shifted_number a b) b.count b.new room
      ∙ ap (λ (x : Result). written_outcome v8 h x room) same_to_write
      ∙ sym (ours_edit other_ours a.first a.count a.new room)

  -- .. and in every byte of equal buffers
  pub same_buffer : (old : List ℕ) → correction_buffer one (shifted a b) old ≡ correction_buffer other a old
  same_buffer old =
      ours_edit_buffer one_ours (shifted_number a b) b.count b.new old
      ∙ ap (λ (x : Result). buffer_of (written_outcome v8 h x (length old)) (file_of v8 h x.records) old) same_to_write
      ∙ sym (ours_edit_buffer other_ours a.first a.count a.new old)

  -- so where one order is accepted to its end the other is, with the same file
  pub other_accepted : (both : List ℕ) → Corrects one (shifted a b) both → Corrects other a both
  other_accepted both x =
      record {
        old = x.old;
        bytes = x.bytes;
        records = x.records;
        version = x.version;
        accept = sym (same_answer (length x.old)) ∙ x.accept;
        front = x.front ∙ ap (take x.bytes) (same_buffer x.old);
      }

  pub one_accepted : (both : List ℕ) → Corrects other a both → Corrects one (shifted a b) both
  one_accepted both x =
      record {
        old = x.old;
        bytes = x.bytes;
        records = x.records;
        version = x.version;
        accept = same_answer (length x.old) ∙ x.accept;
        front = x.front ∙ ap (take x.bytes) (sym (same_buffer x.old));
      }

  -- whatever the buffers were, the same file
  same_file : (both both' : List ℕ) → Corrects one (shifted a b) both → Corrects other a both' → both ≡ both'
  same_file both both' x y =
      corrected_file one_ours (shifted a b) both x ∙ ap (file_of v8 h) (either_first rs a b apart fits) ∙ sym (corrected_file other_ours a both' y)

-- ---- the request in its own words

-- "for two runs that share no record, neither of them empty"; the earlier run's being not empty is used for nothing
pub two_people : (file : List ℕ) (a b : Correction) → Bytes file → Bytes a.new → Bytes b.new
    → ShareNone a b → 0 < a.count → 0 < b.count → a.first ≤ b.first → OrderFree file a b
two_people file a b file_bytes a-bytes b-bytes none some-a some-b order one other both both' A A' B B' =
    same_file file a b one other file_bytes a-bytes b-bytes (earlier_ends a b order some-b none) A B both both' A' B'
