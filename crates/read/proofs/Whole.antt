-- The two passes together, on plain values: what the first says of a file that was opened, what the second leaves in the sheet, and which
-- way the answers of reading and salvaging go. Assumes nothing.
use mathlib.Core.Path.{◌≡◌, refl, sym, ap, ◌∙◌}
use mathlib.Core.List.{List, ◌∷◌, ◌++◌}
use Prim.Native.Nat.{ℕ, ◌+◌, ◌-◌, ◌≤◌, ◌<◌}
use native.Mathlib.Nat.{zero-add}
use native.Mathlib.Omega.{arith}
use lib.ListN.{length, take, drop, length-drop, length-append}
use lib.Seq.{length-take-le}
use borrow.Author.Tests.{lt-ltb, le-ltb}
use Rattle.format.specs.Bytes.{pick, over}
use Rattle.format.specs.Header.{Header, shut, opening_of}
use Rattle.format.specs.State.{Record}
use Rattle.format.specs.Sheet.{sheet_version, layout_all, header_layout, sheet_of}
use Rattle.std.specs.Prelude.{Result as Answer, Ok, Err}
use Rattle.format.specs.Refusals.{Result, Good, Refusal as Refused}
use Rattle.format.specs.Reading.{read_outcome, read_buffer}
use Rattle.format.specs.declared.Done.{Done}
use Rattle.format.specs.declared.Refusal.{Refusal}
use Rattle.format.proofs.SheetLaws.{header_length}
use Rattle.header.specs.Head.{saying}
use Rattle.measure.specs.Totals.{Total, total_of, pass_of}
use Rattle.measure.specs.declared.Passed.{Passed}
use Rattle.layout.specs.Freely.{LaidFreely}
use Rattle.read.specs.Pass.{Headed, result_of, sheet_of_head, Judges, Fills, ReadsTo, SettlesTo, front_of, course_of}
use Rattle.read.specs.Ruling.{Begins}
use Rattle.format.specs.Answers.{answer_of, verdict_of}
use Rattle.strict.specs.Strict.{strict_items, strict_outcome, strict_buffer}
use Rattle.strict.proofs.StrictLaws.{strict_same}
use Rattle.read.specs.Salvage.{report_number, report_place, salvage_outcome, salvage_buffer, SalvagesTo}
use Rattle.header.specs.declared.Head.{Head}
use Rattle.read.proofs.Turn.{filled_behind}

-- the length of a sheet's front and records
sheet_length : (h : Header) (rs : List Record) → length (sheet_of sheet_version h rs) ≡ 7 + length h.title + length h.time + length (layout_all sheet_version rs)
unfolding sheet_of
sheet_length h rs = let l = header_length h in let a = length-append (header_layout h) (layout_all sheet_version rs) in omega arith

module _ (file : List ℕ) (g : Head) (O : Headed file g) where
  abbrev h : Header
  h = saying g.extended g.title g.time file

  abbrev x : Result
  x = result_of file g

  abbrev pub front : ℕ
  front = 7 + g.title + g.time

  pub title_length : length h.title ≡ g.title
  title_length = let r = O.room in length-take-le g.title (drop 24 file) (simp length-drop (omega (arith, r.place_least, r.inside)))

  pub time_length : length h.time ≡ g.time
  time_length = let r = O.room in length-take-le g.time (drop (25 + g.title) file) (simp length-drop (omega (arith, r.place_least, r.inside)))

  front_length : length (sheet_version ∷ header_layout h) ≡ front
  front_length = let a = title_length in let b = time_length in let q = header_length h in omega arith

  sheet_bytes : length (sheet_of_head file g) ≡ front + length (layout_all sheet_version x.records)
  sheet_bytes = let a = title_length in let b = time_length in let q = sheet_length h x.records in omega arith

  -- what a pass needs
  pub begins_head : Begins file (course_of g)
  begins_head = let r = O.room in record { fits = r.file_fits; inside = r.inside; front_few = omega (arith, r.title_fits, r.time_fits) }

  -- the first pass
  pub judges : (r : Passed) → total_of r ≡ pass_of front 0 x → Judges file g r
  unfolding pass_of
  judges r d =
      record {
        verdict_is = ap (λ (q : Total). q.verdict) d;
        bytes_are = ap (λ (q : Total). q.bytes) d ∙ sym sheet_bytes;
        records_are = ap (λ (q : Total). q.records) d ∙ zero-add _;
      }

  module _ (b : ℕ) (old : List ℕ) (F : Fills file g b old) where
    pub front_fits : front ≤ length old
    front_fits = let z = F.bytes_are ∙ sheet_bytes in omega (arith, F.fits)

    -- the second pass is lent just the bytes that are needed
    pub filled : (s y : List ℕ) → s ≡ over (sheet_version ∷ header_layout h) old → LaidFreely (take b s) y front (layout_all sheet_version x.records)
        → y ++ drop b s ≡ over (sheet_of_head file g) old
    unfolding sheet_of
    filled s y p L =
        filled_behind (sheet_version ∷ header_layout h) (layout_all sheet_version x.records) old y s front b front_length (F.bytes_are ∙ sheet_bytes) F.fits p L

  module _ (r : Passed) (J : Judges file g r) (old : List ℕ) where
    -- ---- which way reading goes

    pub read_refused : (e : Refusal) → r.verdict ≡ Err e → ReadsTo file old (Err e) old
    unfolding read_outcome read_buffer
    read_refused e f = let w = sym J.verdict_is ∙ ap verdict_of f in record { answer = rw (O.due, w); buffer = rw (O.due, w) }

    pub read_small : verdict_of r.verdict ≡ Good → length old < r.bytes → ReadsTo file old (Err (record { number = 11; place = r.bytes })) old
    unfolding read_outcome read_buffer pick
    read_small e l =
        let w = sym J.verdict_is ∙ e in
        let i : length old < length (sheet_of_head file g) = rw (← J.bytes_are) l in
        record { answer = simp (O.due, w, lt-ltb _ _ i, J.bytes_are); buffer = simp (O.due, w, lt-ltb _ _ i) }

    pub read_done : verdict_of r.verdict ≡ Good → r.bytes ≤ length old → (y : List ℕ) → y ≡ over (sheet_of_head file g) old → ReadsTo file old (Ok (record { bytes = r.bytes; records = r.records; version = g.version })) y
    unfolding read_outcome read_buffer pick
    read_done e l y q =
        let w = sym J.verdict_is ∙ e in
        let i : length (sheet_of_head file g) ≤ length old = rw (← J.bytes_are) l in
        record { answer = simp (O.due, w, le-ltb _ _ i, J.bytes_are, J.records_are); buffer = q ∙ simp (O.due, w, le-ltb _ _ i) }

    -- ---- which way salvaging goes

    pub salvage_small : length old < r.bytes → SalvagesTo file old (Err (record { number = 11; place = r.bytes })) old
    unfolding salvage_outcome salvage_buffer pick
    salvage_small l =
        let i : length old < length (sheet_of_head file g) = rw (← J.bytes_are) l in
        record { answer = simp (O.due, lt-ltb _ _ i, J.bytes_are); buffer = simp (O.due, lt-ltb _ _ i) }

    pub salvage_done : r.bytes ≤ length old → (y : List ℕ) → y ≡ over (sheet_of_head file g) old → (k p : ℕ) → k ≡ report_number (verdict_of r.verdict) → p ≡ report_place (verdict_of r.verdict) (length file)
        → SalvagesTo file old (Ok (record { bytes = r.bytes; records = r.records; version = g.version; number = k; place = p; left = length file - p })) y
    unfolding salvage_outcome salvage_buffer pick
    salvage_done l y q k p ek ep =
        let i : length (sheet_of_head file g) ≤ length old = rw (← J.bytes_are) l in
        record { answer = simp (O.due, le-ltb _ _ i, ek, ep, J.verdict_is, J.bytes_are, J.records_are); buffer = q ∙ simp (O.due, le-ltb _ _ i) }

-- ---- after the first pass

not_good : {X : Type 0} (k q : ℕ) → Good ≡ Refused k q → X
not_good k q e = absurd (let z : ◌≡◌ {A = ℕ} 0 1 = cc in omega arith)

pub settles_good : (file : List ℕ) (total : Passed) (old : List ℕ) (a : Answer Done Refusal) (sheet : List ℕ) → verdict_of total.verdict ≡ Good → ReadsTo file old a sheet → SettlesTo file total old a sheet
settles_good file total old a sheet e R = record { refusal = λ k q f. not_good k q (sym e ∙ f); good = λ f. R }

pub settles_refused : (file : List ℕ) (total : Passed) (old : List ℕ) (e : Refusal) → total.verdict ≡ Err e → SettlesTo file total old (Err e) old
settles_refused file total old e f =
    record {
      refusal = λ k q g.
          let u : Refused e.number e.place ≡ Refused k q = sym (ap verdict_of f) ∙ g in
          (let z : e.number ≡ k = cc in let w : e.place ≡ q = cc in rw (z, w), refl);
      good = λ g. not_good e.number e.place (sym g ∙ ap verdict_of f);
    }

pub settled_reads : (file : List ℕ) (g : Head) → Headed file g → (r : Passed) → Judges file g r → (old : List ℕ) (a : Answer Done Refusal) (sheet : List ℕ)
    → SettlesTo file r old a sheet → ReadsTo file old a sheet
settled_reads file g O r J old a sheet S = by_verdict r.verdict refl
  where
    by_verdict : (v : Answer Unit Refusal) → r.verdict ≡ v → ReadsTo file old a sheet
    by_verdict (Ok u) e = S.good (ap verdict_of e)
    by_verdict (Err x) e =
        let z = S.refusal x.number x.place (ap verdict_of e) in
        let R = read_refused file g O r J old x e in
        record { answer = z.0 ∙ R.answer; buffer = z.1 ∙ R.buffer }

-- a refused opening
pub read_shut : (file old : List ℕ) (e : Refusal) → shut e.number e.place ≡ opening_of file → ReadsTo file old (Err e) old
unfolding read_outcome read_buffer
read_shut file old e f = record { answer = rw (← f); buffer = rw (← f) }

pub salvage_shut : (file old : List ℕ) (e : Refusal) → shut e.number e.place ≡ opening_of file → SalvagesTo file old (Err e) old
unfolding salvage_outcome salvage_buffer
salvage_shut file old e f = record { answer = rw (← f); buffer = rw (← f) }

-- ---- strict reading

module _ (file old : List ℕ) (index : ℕ) where
  -- an answer and the sheet after it are what strict reading gives
  abbrev pub Strictly : Answer Done Refusal → List ℕ → Type 0
  Strictly a sheet = (answer_of a ≡ strict_outcome file index (length old)) × (sheet ≡ strict_buffer file index old)

  pub strict_shut : (e : Refusal) → shut e.number e.place ≡ opening_of file → Strictly (Err e) old
  unfolding strict_outcome strict_buffer
  strict_shut e f = (rw (← f), rw (← f))

  module _ (g : Head) (O : Headed file g) (total : Passed) (T : total_of total ≡ pass_of (front_of g) 0 (strict_items g.version index g.place file)) where
    abbrev found : Result
    found = strict_items g.version index g.place file

    verdict_is : verdict_of total.verdict ≡ found.verdict
    unfolding pass_of
    verdict_is = ap (λ (q : Total). q.verdict) T

    -- where nothing is refused, both readings make the same records
    same_items : verdict_of total.verdict ≡ Good → found ≡ result_of file g
    same_items e = strict_same g.version index g.place file (sym verdict_is ∙ e)

    pub strict_judges : verdict_of total.verdict ≡ Good → Judges file g total
    strict_judges e = judges file g O total (T ∙ ap (pass_of (front_of g) 0) (same_items e))

    strict_refused : (e : Refusal) → total.verdict ≡ Err e → Strictly (Err e) old
    unfolding strict_outcome strict_buffer
    strict_refused e f = let w = sym verdict_is ∙ ap verdict_of f in (rw (O.due, w), rw (O.due, w))

    strict_read : verdict_of total.verdict ≡ Good → (a : Answer Done Refusal) (sheet : List ℕ) → ReadsTo file old a sheet → Strictly a sheet
    unfolding strict_outcome strict_buffer read_outcome read_buffer
    strict_read e a sheet R = let s = same_items e in (R.answer ∙ rw (O.due, s), R.buffer ∙ rw (O.due, s))

    pub settled_strictly : (a : Answer Done Refusal) (sheet : List ℕ) → SettlesTo file total old a sheet → Strictly a sheet
    settled_strictly a sheet S = by_verdict total.verdict refl
      where
        by_verdict : (v : Answer Unit Refusal) → total.verdict ≡ v → Strictly a sheet
        by_verdict (Ok u) e = strict_read (ap verdict_of e) a sheet (S.good (ap verdict_of e))
        by_verdict (Err x) e =
            let z = S.refusal x.number x.place (ap verdict_of e) in
            let R = strict_refused x e in
            (z.0 ∙ R.0, z.1 ∙ R.1)
