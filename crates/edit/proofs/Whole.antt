-- An edit whole, on plain values: the old bytes before the run, the replacement, what is behind the run, and which way the answer goes.
-- Assumes nothing.
use Rattle.std.specs.Prelude.{Result as Answered, Ok, Err}
use Prim.Native.Nat.{ℕ, suc, ◌+◌, ◌≤◌, ◌<◌}
use mathlib.Core.Path.{◌≡◌, refl, sym, ap, ap₂, ◌∙◌, subst}
use mathlib.Core.Bool.{false}
use mathlib.Core.List.{List, [], ◌∷◌, ◌++◌, append_assoc}
use native.Mathlib.Nat.{add-zero, zero-add}
use native.Mathlib.Omega.{arith}
use lib.ListN.{length, take, drop, length-append, length-drop, take-append-drop}
use lib.Seq.{take-take, take_at, length-take-le}
use borrow.Author.Tests.{lt-ltb, le-ltb}
use Rattle.format.specs.Bytes.{over, Bytes}
use Rattle.format.specs.Header.{Header, shut, opening_of}
use Rattle.format.specs.State.{State, start, Record}
use Rattle.format.specs.Sheet.{sheet_version, records_of}
use Rattle.format.specs.Refusals.{Result, refused, Good, Refusal, Verdict}
use Rattle.format.specs.WellFormed.{AllWellFormed}
use Rattle.format.specs.Reading.{run}
use Rattle.format.specs.Writing.{v8, codes_all, after_all, encode_all, file_of, records_verdict, writing_verdict, filed_outcome, written_outcome}
use Rattle.format.specs.Codes.{setting_after, label_after, after, closing, header_codes}
use Rattle.format.specs.Editing.{house_written, edited, house_verdict, run_verdict, edit_verdict, edit_result, edit_outcome, edit_buffer, codes_place}
use Rattle.format.specs.Fields.{record_of, state_of}
use Rattle.format.specs.declared.Done.{Done}
use Rattle.format.specs.declared.Refusal.{Refusal as Refused}
use Rattle.format.specs.declared.Fields.{Fields}
use Rattle.format.specs.declared.Setting.{Setting}
use Rattle.format.proofs.Basics.{pick_true, pick_false, same_true}
use Rattle.format.proofs.RefusalLaws.{outcome_bytes}
use Rattle.format.proofs.WritingLaws.{setting_at, able, encode_append}
use Rattle.format.proofs.GoodRecords.{items_formed, items_sayable}
use Rattle.format.proofs.EditingLaws.{formed_drop, sayable_take, from_record, before_record}
use Rattle.wire.specs.Laid.{laid, laid_if}
use Rattle.wire.proofs.Laws.{laid_zero, laid_some, laid_next}
use Rattle.scan.specs.Places.{state_at}
use Rattle.scan.specs.Keeping.{Keeps}
use Rattle.scan.specs.declared.Place.{Place}
use Rattle.judge.specs.Walking.{GoodSetting, rest_of}
use Rattle.judge.specs.Judging.{old_header, OldOpens, old_result, Stands, House, Cuts}
use Rattle.header.specs.declared.Head.{Head}
use Rattle.judge.specs.declared.Run.{Run}
use Rattle.judge.proofs.Splice.{sayable_any, sayable_drop, good_start, good_all, read_from_lem}
use Rattle.judge.proofs.Whole.{house_place}
use Rattle.counts.specs.Tallies.{Adds, Finished, encoded, Rest, Passed, Writes}
use Rattle.counts.specs.declared.Tally.{Tally}
use Rattle.counts.proofs.Left.{Left, left_last, left_end}
use Rattle.edit.specs.Pens.{pen_state, Emits, Written, Standing, Behind, WentOn, PutsNew}
use Rattle.edit.specs.Runs.{edited_at, CutAt, Spliced, FrontStands, pen_at, Changed, Edits}
use Rattle.edit.specs.declared.Pen.{Pen}
use Rattle.edit.specs.declared.Splice.{Splice}
use Rattle.edit.specs.declared.Went.{Went}
use Rattle.edit.proofs.Chain.{written_then, left_written}
use Rattle.edit.proofs.Tail.{laid_length}

-- ---- `put_one`

pub emits_one : (pen : Pen) (l l' : List ℕ) (f : Fields) (name d d' : List ℕ) (count : Tally) (len : ℕ)
    → Adds v8 (pen_state pen l) (record_of f name) d d' pen.count count → Keeps l l' pen.len name f len
    → Emits pen l (record_of f name) d d' (record { count = count; setting = setting_after pen.setting (record_of f []); len = len }) l'
emits_one pen l l' f name d d' count len A K =
    record {
      adds = A;
      state =
          ap (state_of (setting_after pen.setting (record_of f []))) K.label_is
          ∙ ap (λ (s : Setting). state_of s (label_after (take pen.len l) (record_of f name))) (setting_at pen.setting f name);
      fits = record { label_short = K.label_short; label_whole = K.label_whole };
    }

-- ---- `put_edited`: the replacement, and what is behind the run

-- the verdict of records behind some that are not refused
verdict_append : (xs ys : List Record) (n : ℕ) (st : State) → records_verdict v8 n st xs ≡ Good
    → records_verdict v8 n st (xs ++ ys) ≡ records_verdict v8 (n + length xs) (after_all v8 st xs) ys
unfolding records_verdict after_all
verdict_append [] ys n st e = rw (add-zero n)
verdict_append (x ∷ xs) ys n st e =
    let s = able v8 n st x xs e in
    let z : n + 1 + length xs ≡ n + suc (length xs) = omega arith in
    pick_false _ _ s.0 ∙ verdict_append xs ys (n + 1) (after st x) s.1 ∙ ap (λ (k : ℕ). records_verdict v8 k (after_all v8 (after st x) xs) ys) z

module _ {file : List ℕ} {cut : Splice} {b b' : List ℕ} (K : CutAt file cut b b') (bytes : Bytes file) where
  abbrev C : Cuts file cut.old cut.run cut.front b cut.back b' cut.rest
  C = K.cuts

  abbrev pub h : Header
  h = old_header file cut.old

  abbrev pub R : List Record
  R = (old_result file cut.old).records

  abbrev first : ℕ
  first = cut.run.first

  abbrev behind : ℕ
  behind = cut.run.first + cut.run.count

  formed : AllWellFormed R
  formed = items_formed cut.old.version cut.old.place file bytes

  sayable : records_verdict v8 0 start R ≡ Good
  sayable = items_sayable cut.old.version cut.old.place file bytes

  file_is : file ≡ file_of v8 h R
  unfolding house_written
  file_is = same_true file (file_of v8 h R) C.house.house

  -- the old file from behind the run on
  at_back : (j : ℕ) (p : Place) (c : List ℕ) → Stands file h R j p c → rest_of file p.at (state_at p c) ≡ record { records = drop j R; verdict = Good }
  at_back j p c S =
      rw (S.place_is, S.state)
      (ap (λ (s : List ℕ). run 8 (codes_place h R j) (drop (codes_place h R j) s) (after_all v8 start (take j R))) file_is
      ∙ read_from_lem h R j formed sayable (codes_place h R j))

  pub back_standing : Standing file cut.back b'
  back_standing =
      let S = C.behind in
      let e = at_back behind cut.back b' S in
      record {
        ready = record {
          small = K.opens.room.file_fits;
          inside = S.inside;
          sound =
              record {
                good = subst (λ (x : State). GoodSetting x.setting) (sym S.state) (good_all behind start R good_start formed);
                formed = rw e (formed_drop behind R formed);
                sayable = rw (e, S.state) (sayable_drop behind 0 0 start R sayable);
              };
        };
        readable = rw e;
        ours = rw e (rw (S.place_is, S.state) (ap (drop (codes_place h R behind)) file_is ∙ from_record h R behind));
      }

  pub back_records : (rest_of file cut.back.at (state_at cut.back b')).records ≡ drop behind R
  back_records = ap (λ (x : Result). x.records) (at_back behind cut.back b' C.behind)

  pub few_first : first ≤ 16777216
  few_first = omega (arith, C.all, C.few, K.opens.room.file_fits)

  pub front_low : cut.front.at ≤ 16777216
  front_low = omega (arith, C.before.inside.place_inside, K.opens.room.file_fits)

  -- the old bytes before the run
  abbrev H : List ℕ
  H = header_codes h

  abbrev before_codes : List ℕ
  before_codes = codes_all v8 start (take first R)

  front_is : take cut.front.at file ≡ H ++ before_codes
  front_is = rw C.before.place_is (ap (take (codes_place h R first)) file_is ∙ before_record h R first)

  head_is : cut.old.place ≡ length H
  unfolding file_of
  head_is = house_place file cut.old K.opens (encode_all v8 start R) file_is

  front_place : cut.front.at ≡ cut.old.place + length before_codes
  unfolding codes_place
  front_place = C.before.place_is ∙ length-append H before_codes ∙ ap (λ (n : ℕ). n + length before_codes) (sym head_is)

  module _ (new : List ℕ) where
    abbrev x₀ : Result
    x₀ = edited_at file cut new

    -- the records from the run on
    abbrev Y : List Record
    Y = (records_of sheet_version new).records ++ drop behind R

    abbrev found : State
    found = after_all v8 start (take first R)

    abbrev S : List ℕ
    S = encode_all v8 found Y

    encoded_is : encoded v8 x₀ ≡ before_codes ++ S
    unfolding edited
    encoded_is = encode_append v8 (take first R) Y start

    first_length : length (take first R) ≡ first
    first_length = length-take-le first R (omega (arith, C.all))

    -- where they are written already, the old bytes before the run stay
    stays_there : (d : List ℕ) → FrontStands file cut.front.at d → cut.front.at ≤ length d → laid d cut.old.place before_codes ≡ d
    unfolding laid
    stays_there d f l =
        let e : take cut.front.at d ≡ H ++ before_codes = f l ∙ front_is in
        let q : take cut.old.place d ≡ H =
        sym (take-take cut.old.place cut.front.at d (omega (arith, front_place)))
        ∙ ap (take cut.old.place) e
        ∙ take_at H before_codes cut.old.place (sym head_is) in
        rw (q, ← front_place)
        (sym (append_assoc H before_codes _) ∙ ap (λ (s : List ℕ). s ++ drop cut.front.at d) (sym e) ∙ take-append-drop cut.front.at d)

    pub left_first : (d : List ℕ) → FrontStands file cut.front.at d
        → Left v8 x₀ cut.old.place d d (record { bytes = cut.front.at; records = first; fault = Ok tt }) found (record { records = Y; verdict = Good })
    unfolding edited
    left_first d f =
        let low = front_low in
        let sizes : length (encoded v8 x₀) ≡ length before_codes + length S = ap length encoded_is ∙ length-append before_codes S in
        record {
          verdict = refl;
          records = (let z = length-append (take first R) Y in omega (arith, z, first_length));
          styles =
              sym
              (verdict_append (take first R) Y 0 start (sayable_take first 0 start R sayable)
              ∙ ap (λ (n : ℕ). records_verdict v8 n found Y) (zero-add (length (take first R)) ∙ first_length));
          big = λ q. absurd (omega arith);
          exact = λ q. omega (arith, sizes, front_place);
          filled = λ q s.
              let inside : cut.front.at ≤ length d = omega (arith, sizes, front_place) in
              ap₂ (λ (e : List ℕ) (k : ℕ). laid e k S) (sym (stays_there d f inside)) front_place
              ∙ laid_next d before_codes S cut.old.place (omega (arith, front_place))
              ∙ ap (laid d cut.old.place) (sym encoded_is);
        }

    pen_first : pen_state (pen_at cut) b ≡ found
    pen_first = C.before.state

    pub behind_ready : {d l₁ d₁ : List ℕ} {pen : Pen} → PutsNew new (pen_at cut) b d pen l₁ d₁ → length new ≤ 9223372036854775807
        → Behind file (record { place = cut.back; pen = pen; left = cut.rest }) b' l₁
    behind_ready N long =
        record {
          standing = back_standing;
          counted = rw back_records (simp length-drop (omega (arith, C.all)));
          fits = N.fits;
          few_bytes = N.few_bytes;
          few_records = omega (arith, N.few_records, C.all, C.few, K.opens.room.file_fits);
        }

    module _ (d : List ℕ) (f : FrontStands file cut.front.at d) {w : Went} {b₂ l₂ d₂ : List ℕ} (H : Changed file cut new b b' d w l₂ b₂ d₂) where
      abbrev G : WentOn file (record { place = cut.back; pen = H.pen; left = cut.rest }) b' H.label H.between w b₂ l₂ d₂
      G = H.went

      D : List Record
      D = drop behind R

      abbrev left_records : List Record
      left_records = (rest_of file w.place.at (state_at w.place b₂)).records

      rest_is : left_records ≡ drop G.done D
      unfolding D
      rest_is = G.records ∙ ap (drop G.done) back_records

      chain : Written found d (pen_at cut).count ((records_of sheet_version new).records ++ take G.done D) (pen_state w.pen l₂) d₂ w.pen.count
      unfolding D
      chain = written_then (rw pen_first at H.puts.written) (rw back_records at G.written)

      all-is :
          ◌≡◌ {A = Result} (record { records = ((records_of sheet_version new).records ++ take G.done D) ++ left_records; verdict = Good })
          (record { records = Y; verdict = Good })
      unfolding D
      all-is =
          ap (λ (rs : List Record). record { records = rs; verdict = Good })
          (append_assoc (records_of sheet_version new).records (take G.done (drop behind R)) left_records
          ∙ ap (λ (rs : List Record). (records_of sheet_version new).records ++ rs)
          (ap (λ (rs : List Record). take G.done (drop behind R) ++ rs) rest_is ∙ take-append-drop G.done (drop behind R)))

      pub now_left :
          (Left v8 x₀ cut.old.place d d₂ w.pen.count (pen_state w.pen l₂) (record { records = left_records; verdict = Good }))
          × (length d₂ ≡ length d)
      now_left = left_written chain x₀ cut.old.place d (record { records = left_records; verdict = Good }) (rw all-is (left_first d f)) refl

      -- no record is left
      pub ends_closed : w.left ≡ 0 → {d₃ : List ℕ} {r : Answered Done Refused} → Finished v8 d₂ d₃ (closing w.pen.setting.style) w.pen.count r
          → Rest v8 x₀ cut.old.place d d₃ r
      ends_closed e {d₃} {r} F =
          let none : left_records ≡ [] = none_left left_records (sym G.behind.counted ∙ e) in
          left_end v8 x₀ cut.old.place d d₂ w.pen.count (pen_state w.pen l₂) d₃ r now_left.1 (rw none at now_left.0) F
        where
          none_left : (rs : List Record) → length rs ≡ 0 → rs ≡ []
          none_left [] q = refl
          none_left (y ∷ ys) q = absurd (omega (arith, q))

      -- the rest is as it was
      pub ends_copied : (w.left ≡ 0 → ⊥) → {d₃ : List ℕ} {r : Answered Done Refused}
          → Finished v8 d₂ d₃ (drop w.place.at file)
          (record { bytes = w.pen.count.bytes; records = w.pen.count.records + w.left; fault = w.pen.count.fault }) r
          → Rest v8 x₀ cut.old.place d d₃ r
      ends_copied e {d₃} {r} F =
          let same-now = G.level (omega arith) in
          let T = G.behind.standing in
          left_last v8 x₀ cut.old.place d d₂ w.pen.count (pen_state w.pen l₂) (record { records = left_records; verdict = Good })
          (drop w.place.at file) d₃ w.left r
          now_left.1 now_left.0 refl
          (rw (← same-now) (sayable_any w.pen.count.records 0 (state_at w.place b₂) left_records T.ready.sound.sayable))
          (T.ours ∙ ap (λ (st : State). encode_all v8 st left_records) same-now)
          G.behind.counted F

    -- ---- `pass`

    front_length : length (take cut.front.at file) ≡ cut.front.at
    front_length = length-take-le cut.front.at file C.before.inside.place_inside

    pub front_laid : (d : List ℕ) → FrontStands file cut.front.at (laid_if d 0 (take cut.front.at file))
    unfolding over
    front_laid d l =
        let F = take cut.front.at file in
        let k : 0 + length F ≤ length d = (let z = laid_length d 0 F in omega (arith, z, front_length)) in
        ap (take cut.front.at) (laid_some d F 0 k ∙ laid_zero d F) ∙ take_at F (drop (length F) d) cut.front.at front_length

    file_after : file_of v8 h x₀.records ≡ H ++ encoded v8 x₀
    unfolding file_of
    file_after = refl

    pub pass_spliced : (d e : List ℕ) (r : Answered Done Refused) → Rest v8 x₀ cut.old.place (laid_if d 0 (take cut.front.at file)) e r → Passed v8 h x₀ d e r
    unfolding written_outcome filed_outcome
    pass_spliced d e r T =
        let F = take cut.front.at file in
        let sizes : length (encoded v8 x₀) ≡ length before_codes + length S = ap length encoded_is ∙ length-append before_codes S in
        let size : length (file_of v8 h x₀.records) ≡ cut.old.place + length (encoded v8 x₀) =
        ap length file_after ∙ length-append H (encoded v8 x₀) ∙ ap (λ (n : ℕ). n + length (encoded v8 x₀)) (sym head_is) in
        record {
          answer = T.answer ∙ rw size;
          kept = T.kept ∙ laid_length d 0 F;
          written = λ b n v q l.
              let q' = rw size at q in
              let whole = cut.old.place + length (encoded v8 x₀) in
              let z : b ≡ whole = outcome_bytes (writing_verdict v8 x₀ whole) whole (length x₀.records) 8 b n v q' in
              let k : 0 + length F ≤ length d = omega (arith, z, sizes, front_place, front_length) in
              let there : laid_if d 0 F ≡ laid d 0 F = laid_some d F 0 k in
              let same_size = laid_length d 0 F in
              T.written b n v q' (omega (arith, same_size))
              ∙ ap (laid (laid_if d 0 F) cut.old.place) encoded_is
              ∙ sym (laid_next (laid_if d 0 F) before_codes S cut.old.place (omega (arith, same_size, front_place, front_length)))
              ∙ ap₂ (λ (s : List ℕ) (i : ℕ). laid s i S) (stays_there (laid_if d 0 F) (front_laid d) (omega (arith, same_size, front_length)) ∙ there)
              (sym front_place ∙ sym front_length ∙ sym (zero-add (length F)))
              ∙ laid_next d F S 0 (omega arith)
              ∙ laid_zero d (F ++ S)
              ∙ ap (λ (s : List ℕ). over s d)
              (ap (λ (s : List ℕ). s ++ S) front_is ∙ append_assoc H before_codes S ∙ ap (λ (s : List ℕ). H ++ s) (sym encoded_is) ∙ sym file_after);
        }

-- ---- answers

module _ (file : List ℕ) (old : Head) (O : OldOpens file old) (run : Run) (new d : List ℕ) where
  abbrev header : Header
  header = old_header file old

  abbrev x : Result
  x = old_result file old

  abbrev verdict : Verdict
  verdict = edit_verdict file header x run.first run.count (records_of sheet_version new)

  outcome_refused : (k q : ℕ) → verdict ≡ Refusal k q → edit_outcome file run.first run.count new (length d) ≡ refused k q
  unfolding edit_outcome edit_result written_outcome filed_outcome
  outcome_refused k q e = rw (O.due, e)

  pub edits_refused : (k q : ℕ) → verdict ≡ Refusal k q → Edits file run new d d (Err (record { number = k; place = q }))
  unfolding edit_buffer
  edits_refused k q e = let z = outcome_refused k q e in record { answer = sym z; buffer = rw z }

  unread : (k q : ℕ) → x.verdict ≡ Refusal k q → verdict ≡ Refusal k q
  unfolding edit_verdict
  unread k q e = rw e

  pub edits_unread : (k q : ℕ) → x.verdict ≡ Refusal k q → Edits file run new d d (Err (record { number = k; place = q }))
  edits_unread k q e = edits_refused k q (unread k q e)

  foreign : x.verdict ≡ Good → house_written file header x.records ≡ false → verdict ≡ Refusal 14 0
  unfolding edit_verdict house_verdict
  foreign g e = rw (g, pick_false Good (Refusal 14 0) e)

  pub edits_foreign : x.verdict ≡ Good → house_written file header x.records ≡ false → Edits file run new d d (Err (record { number = 14; place = 0 }))
  edits_foreign g e = edits_refused 14 0 (foreign g e)

  module _ (ours : House file old) where
    house_good : house_verdict file header x.records ≡ Good
    unfolding house_verdict
    house_good = pick_true _ _ ours.house

    past : (n : ℕ) → n ≡ length x.records → n < run.first + run.count → verdict ≡ Refusal 15 n
    unfolding edit_verdict run_verdict
    past n e l = rw (ours.readable, house_good, ← e, pick_true (Refusal 15 n) Good (lt-ltb n (run.first + run.count) l))

    pub edits_past : (n : ℕ) → n ≡ length x.records → n < run.first + run.count → Edits file run new d d (Err (record { number = 15; place = n }))
    edits_past n e l = edits_refused 15 n (past n e l)

    module _ (inside : run.first + run.count ≤ length x.records) where
      run_good : run_verdict x.records run.first run.count ≡ Good
      unfolding run_verdict
      run_good = pick_false _ _ (le-ltb (length x.records) (run.first + run.count) inside)

      spoilt : (k q : ℕ) → Refusal k q ≡ (records_of sheet_version new).verdict → verdict ≡ Refusal k q
      unfolding edit_verdict
      spoilt k q e = rw (ours.readable, house_good, run_good, ← e)

      pub edits_flawed : (k q : ℕ) → Refusal k q ≡ (records_of sheet_version new).verdict → Edits file run new d d (Err (record { number = k; place = q }))
      edits_flawed k q e = edits_refused k q (spoilt k q e)

      module _ (well : (records_of sheet_version new).verdict ≡ Good) (y : Result)
          (is : y ≡ record { records = edited x.records run.first run.count (records_of sheet_version new).records; verdict = Good }) where
        result_is : edit_result file header x run.first run.count (records_of sheet_version new) ≡ y
        unfolding edit_result edit_verdict
        result_is = rw (ours.readable, house_good, run_good, well) (sym is)

        pub edits_written : (d' : List ℕ) (r : Answered Done Refused) → Writes v8 header y d d' r → Edits file run new d d' r
        unfolding edit_outcome edit_buffer
        edits_written d' r W = record { answer = W.answer ∙ rw (O.due, result_is); buffer = W.buffer ∙ rw (O.due, result_is, is) }

-- `edit_house`
module _ {file : List ℕ} {cut : Splice} {b b' : List ℕ} (K : CutAt file cut b b') (new d : List ℕ) where
  run_inside : cut.run.first + cut.run.count ≤ length (old_result file cut.old).records
  run_inside = omega (arith, K.cuts.all)

  pub house_flawed : (r : Refused) → Refusal r.number r.place ≡ (records_of sheet_version new).verdict → Edits file cut.run new d d (Err r)
  house_flawed r e = edits_flawed file cut.old K.opens cut.run new d K.cuts.house run_inside r.number r.place e

  pub house_spliced : Good ≡ (records_of sheet_version new).verdict → Spliced file cut new b b'
  house_spliced e = record { at = K; well_formed = sym e }

  pub house_written_lem : Good ≡ (records_of sheet_version new).verdict → (d' : List ℕ) (r : Answered Done Refused)
      → Writes v8 (old_header file cut.old) (edited_at file cut new) d d' r → Edits file cut.run new d d' r
  house_written_lem e d' r W = edits_written file cut.old K.opens cut.run new d K.cuts.house run_inside (sym e) (edited_at file cut new) refl d' r W

-- a refused opening
pub edits_shut : (file : List ℕ) (first count : ℕ) (new d : List ℕ) (k q : ℕ) → shut k q ≡ opening_of file
    → (refused k q ≡ edit_outcome file first count new (length d)) × (d ≡ edit_buffer file first count new d)
unfolding edit_outcome edit_buffer
edits_shut file first count new d k q e = (rw (← e), rw (← e))
