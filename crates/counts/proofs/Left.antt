-- Records written one after another, on plain values: what is left to write, with what is written and counted so far, comes to the same
-- as the whole. Assumes nothing.
use Prim.Native.Nat.{ℕ, ◌+◌, ◌-◌, ◌≤◌, ◌<◌}
use mathlib.Core.Path.{◌≡◌, refl, sym, ap, ap₂, ◌∙◌}
use mathlib.Core.List.{List, [], ◌∷◌, ◌++◌, append_assoc}
use mathlib.Core.Bool.{Bool, true, false}
use native.Mathlib.Nat.{add-zero}
use native.Mathlib.Omega.{arith}
use lib.ListN.{length, take, drop, length-append, length-take, length-drop}
use lib.Seq.{take_at, length-take-le}
use borrow.Author.Tests.{ltb-true, ltb-false, lt-ltb, le-ltb}
use borrow.Author.Rules.{part_to_end}
use Rattle.format.specs.Bytes.{pick}
use Rattle.format.specs.Header.{file_limit}
use Rattle.format.specs.State.{State, start, Record}
use Rattle.format.specs.Refusals.{or_else, Result, stop, also, accepted, refused, outcome_of, Good, Refusal, Verdict}
use Rattle.format.specs.Writing.{Writer, v8, codes_all, after_all, encode_all, records_verdict, size_verdict, filed_outcome}
use Rattle.format.specs.Codes.{codes_limit, codes, unsayable}
use Rattle.format.specs.Fields.{record_of, state_of}
use Rattle.std.specs.Prelude.{Result as Answered, Ok, Err}
use Rattle.format.specs.Answers.{answer_of, verdict_of}
use Rattle.format.specs.declared.Refusal.{Refusal as Refused}
use Rattle.format.specs.declared.Done.{Done}
use Rattle.format.specs.declared.Setting.{Setting}
use Rattle.format.specs.declared.Fields.{Fields}
use Rattle.format.proofs.WritingLaws.{unsayable_at}
use Rattle.format.proofs.RefusalLaws.{never, outcome_fits, outcome_bytes}
use Rattle.format.proofs.Basics.{pick_case, pick_true, pick_false, less_or_not}
use Rattle.wire.specs.Laid.{laid}
use Rattle.wire.proofs.Laws.{laid_next, laid_part}
use Rattle.part.specs.Lays.{Puts}
use Rattle.counts.specs.Tallies.{bounded, settled, Adds, final_outcome, Finished, encoded, rest_outcome, Rest}
use Rattle.counts.specs.declared.Tally.{Tally}

-- ---- a piece written into the part of d from `from` on: there or, where that is past the end, nowhere

module _ (d : List ℕ) (total from : ℕ) (X y : List ℕ) (m r : ℕ) (inside : from ≤ length d) (p : Puts (take (length d - from) (drop from d)) y X m r) where
  abbrev pub written : List ℕ
  written = take from d ++ (y ++ drop (length d - from) (drop from d))

  pub written_length : length written ≡ length d
  written_length = let k = p.kept in let l = simp (length-take, length-drop) at k in simp (length-append, length-take, length-drop) (omega arith)

  pub written_there : (total ≤ length d → from ≡ total) → total + r ≤ length d → written ≡ laid d total X
  written_there q h =
      let e : from ≡ total = q (omega arith) in
      let l : length (take (length d - from) (drop from d)) ≡ length d - from = simp (part_to_end, length-drop) in
      let z = p.written (omega (arith, l)) in
      rw z (laid_part d X from inside (length d) refl) ∙ ap (λ (i : ℕ). laid d i X) e

  pub written_stays : (total ≤ length d → from ≡ total) → total ≤ length d → take total written ≡ take total d
  written_stays q h = let e : from ≡ total = q h in rw (← e) (take_at (take from d) _ from (length-take-le from d inside))

-- ---- verdicts and sums

or_pick : (v w : Verdict) (b : Bool) (k n : ℕ) → or_else (or_else v (pick b (Refusal k n) Good)) w ≡ or_else v (pick b (Refusal k n) w)
unfolding pick
or_pick Good w true k n = refl
or_pick Good w false k n = refl
or_pick (Refusal m p) w b k n = refl

bounded_case : (P : ℕ → Type 0) (total n : ℕ) → (file_limit < total → P total) → (total ≤ file_limit → P (total + n)) → P (bounded total n)
unfolding bounded
bounded_case P total n f g = pick_case P _ _ _ (λ e. f (ltb-true file_limit total e)) λ e. g (ltb-false file_limit total e)

pub size_big : (n : ℕ) → file_limit < n → size_verdict n ≡ Refusal 16 0
unfolding size_verdict
size_big n h = pick_true _ _ (lt-ltb file_limit n h)

pub size_good : (n : ℕ) → n ≤ file_limit → size_verdict n ≡ Good
unfolding size_verdict
size_good n h = pick_false _ _ (le-ltb file_limit n h)

-- ---- one record more, whose codes are written into the part of d from `from` on

module _ (w : Writer) (d : List ℕ) (t : Tally) (st : State) (r : Record) (from : ℕ) (y : List ℕ) (n bytes : ℕ) (fault : Answered Unit Refused)
    (inside : from ≤ length d) (q : t.bytes ≤ length d → from ≡ t.bytes) (P : Puts (take (length d - from) (drop from d)) y (w.codes st r) w.longest n)
    (b : bytes ≡ bounded t.bytes n)
    (e : verdict_of fault ≡ or_else (verdict_of t.fault) (pick (w.unable st r) (Refusal w.number t.records) Good)) where
  pub adds_one : Adds w st r d (take from d ++ (y ++ drop (length d - from) (drop from d))) t
      (record { bytes = bytes; records = t.records + 1; fault = fault })
  adds_one =
      record {
        most = omega (arith, P.size, P.most);
        bytes = b ∙ ap (bounded t.bytes) P.size;
        records = refl;
        fault = e;
        kept = written_length d t.bytes from _ y w.longest n inside P;
        stays = written_stays d t.bytes from _ y w.longest n inside P q;
        written = λ h. written_there d t.bytes from _ y w.longest n inside P q (omega (arith, P.size));
      }

-- the same for v8, by a record's fields
module _ (d : List ℕ) (t : Tally) (setting : Setting) (last name : List ℕ) (f : Fields) (from : ℕ) (y : List ℕ) (n bytes : ℕ) (fault : Answered Unit Refused)
    (inside : from ≤ length d) (q : t.bytes ≤ length d → from ≡ t.bytes)
    (P : Puts (take (length d - from) (drop from d)) y (codes (state_of setting last) (record_of f name)) codes_limit n)
    (b : bytes ≡ bounded t.bytes n) (e : verdict_of fault ≡ or_else (verdict_of t.fault) (pick (unsayable setting.style (record_of f [])) (Refusal 13 t.records) Good)) where
  pub adds-next :
      Adds v8 (state_of setting last) (record_of f name) d (take from d ++ (y ++ drop (length d - from) (drop from d))) t
      (record { bytes = bytes; records = t.records + 1; fault = fault })
  adds-next =
      adds_one v8 d t (state_of setting last) (record_of f name) from y n bytes fault inside q P b
      (e ∙ ap (λ (x : Bool). or_else (verdict_of t.fault) (pick x (Refusal 13 t.records) Good)) (unsayable_at setting.style f name))

-- ---- any writer

module _ (w : Writer) where
  -- the bytes stay at most a record over what refusal 16 allows
  pub adds_few : (st : State) (r : Record) (d d' : List ℕ) (t t' : Tally) → Adds w st r d d' t t' → t.bytes ≤ file_limit + w.longest
      → t'.bytes ≤ file_limit + w.longest
  adds_few st r d d' t t' A f =
      rw A.bytes (bounded_case (λ (n : ℕ). n ≤ file_limit + w.longest) t.bytes (length (w.codes st r)) (λ x. f) λ x. omega (arith, A.most))

  -- ---- what is left to write

  abbrev rest : State → List Record → List ℕ
  rest st rs = encode_all w st rs

  pub encode_more : (st : State) (r : Record) (rs : List Record) → rest st (r ∷ rs) ≡ w.codes st r ++ rest (w.after st r) rs
  unfolding encode_all codes_all after_all
  encode_more st r rs = append_assoc (w.codes st r) _ _

  pub encode_none : (st : State) → rest st [] ≡ w.closing st
  unfolding encode_all codes_all after_all
  encode_none st = refl

  -- x₀ is the whole, behind a header of `head` bytes, and x what is left of it
  pub record Left (x₀ : Result) (head : ℕ) (d₀ d : List ℕ) (t : Tally) (st : State) (x : Result) : Type 0 where
    pub verdict : x.verdict ≡ x₀.verdict
    pub records : t.records + length x.records ≡ length x₀.records
    pub styles : or_else (verdict_of t.fault) (records_verdict w t.records st x.records) ≡ records_verdict w 0 start x₀.records
    pub big : file_limit < t.bytes → file_limit < head + length (encoded w x₀)
    pub exact : t.bytes ≤ file_limit → t.bytes + length (rest st x.records) ≡ head + length (encoded w x₀)
    pub filled : head + length (encoded w x₀) ≤ length d₀ → head + length (encoded w x₀) ≤ file_limit
        → laid d t.bytes (rest st x.records) ≡ laid d₀ head (encoded w x₀)

  pub left_none : (x₀ : Result) (head : ℕ) (d : List ℕ) → head ≤ file_limit → Left x₀ head d d (record { bytes = head; records = 0; fault = Ok tt }) start x₀
  left_none x₀ head d h =
      record { verdict = refl; records = omega arith; styles = refl; big = λ q. absurd (omega arith); exact = λ q. refl; filled = λ q s. refl }

  -- one record more is written
  module _ (x₀ : Result) (head : ℕ) (d₀ d d' : List ℕ) (t t' : Tally) (st : State) (r : Record) (x : Result)
      (L : Left x₀ head d₀ d t st (also r x)) (kept : length d ≡ length d₀) (A : Adds w st r d d' t t') where
    abbrev n : ℕ
    n = length (w.codes st r)

    abbrev st' : State
    st' = w.after st r

    styles_more : or_else (verdict_of t'.fault) (records_verdict w t'.records st' x.records) ≡ records_verdict w 0 start x₀.records
    unfolding records_verdict
    styles_more = rw (A.fault, A.records) (or_pick (verdict_of t.fault) _ (w.unable st r) w.number t.records ∙ L.styles)

    rest_length : length (rest st (r ∷ x.records)) ≡ n + length (rest st' x.records)
    rest_length = rw (encode_more st r x.records, length-append)

    records_left : t'.records + length x.records ≡ length x₀.records
    records_left = omega (arith, L.records, A.records)

    past : (b : ℕ) → t'.bytes ≡ b → b ≡ t.bytes → file_limit < t.bytes → Left x₀ head d₀ d' t' st' x
    past b e f h =
        let z = L.big h in
        record {
          verdict = L.verdict;
          records = records_left;
          styles = styles_more;
          big = λ q. z;
          exact = λ q. absurd (omega arith);
          filled = λ q s. absurd (omega arith);
        }

    below : t'.bytes ≡ t.bytes + n → t.bytes ≤ file_limit → Left x₀ head d₀ d' t' st' x
    below e h =
        let z = L.exact h in
        let l = rest_length in
        record {
          verdict = L.verdict;
          records = records_left;
          styles = styles_more;
          big = λ q. omega arith;
          exact = λ q. omega arith;
          filled = λ q s.
              ap₂ (λ (y : List ℕ) (i : ℕ). laid y i (rest st' x.records)) (A.written (omega arith)) e
              ∙ laid_next d (w.codes st r) (rest st' x.records) t.bytes (omega arith)
              ∙ ap (laid d t.bytes) (sym (encode_more st r x.records))
              ∙ L.filled q s;
        }

    pub left_more : Left x₀ head d₀ d' t' st' x
    left_more =
        bounded_case (λ (b : ℕ). t'.bytes ≡ b → Left x₀ head d₀ d' t' st' x) t.bytes n (λ h e. past t.bytes e refl h) (λ h e. below e h) A.bytes

  -- ---- answers

  module _ (x₀ : Result) (head : ℕ) (d₀ : List ℕ) where
    pub rest_refused : (d : List ℕ) → length d ≡ length d₀ → (k p : ℕ) → refused k p ≡ rest_outcome w head x₀ → Rest w x₀ head d₀ d (Err (record { number = k; place = p }))
    rest_refused d kept k p e = record { answer = e; kept = kept; written = λ b n v q h. absurd (never k p b n v (e ∙ q)) }

    module _ (d : List ℕ) (t : Tally) (st : State) where
      pub left_stopped : (k p : ℕ) → Left x₀ head d₀ d t st (stop (Refusal k p)) → refused k p ≡ rest_outcome w head x₀
      unfolding filed_outcome
      left_stopped k p L = rw (← L.verdict)

      pub left_flawed : (number : ℕ) → Left x₀ head d₀ d t st (stop (Refusal 12 number)) → refused 12 number ≡ rest_outcome w head x₀
      left_flawed number L = left_stopped 12 number L

      -- the bytes of `last` are what is left to write, of n records; they are written without reading them
      module _ (x : Result) (last d' : List ℕ) (n : ℕ) (r : Answered Done Refused) (kept : length d ≡ length d₀) (L : Left x₀ head d₀ d t st x) (good : x.verdict ≡ Good)
          (said : records_verdict w t.records st x.records ≡ Good) (is : last ≡ rest st x.records) (counted : n ≡ length x.records)
          (F : Finished w d d' last (record { bytes = t.bytes; records = t.records + n; fault = t.fault }) r) where
        abbrev bytes : ℕ
        bytes = t.bytes + length last

        abbrev whole : ℕ
        whole = head + length (encoded w x₀)

        no_style : or_else (verdict_of t.fault) Good ≡ records_verdict w 0 start x₀.records
        no_style = rw said at L.styles

        bytes_are : t.bytes ≤ file_limit → bytes ≡ whole
        bytes_are h = let z = L.exact h in let l = ap length is in omega arith

        -- both are over what refusal 16 allows, or they are the same
        outcomes : (v : Verdict) (m : ℕ)
            → outcome_of (or_else v (size_verdict bytes)) bytes m w.version bytes
            ≡ outcome_of (or_else (or_else v Good) (size_verdict whole)) whole m w.version whole
        outcomes (Refusal k p) m = refl
        outcomes Good m = less_or_not file_limit t.bytes (λ h. rw (size_big bytes (omega arith), size_big whole (L.big h))) λ h. rw (bytes_are h)

        outcome_is : final_outcome w (verdict_of t.fault) bytes (t.records + n) ≡ rest_outcome w head x₀
        unfolding final_outcome filed_outcome
        outcome_is =
            let k : t.records + n ≡ length x₀.records = omega (arith, L.records, counted) in
            let v : x₀.verdict ≡ Good = sym L.verdict ∙ good in
            outcomes (verdict_of t.fault) (t.records + n) ∙ rw (v, ← no_style, ← k)

        -- a file that is accepted is not too long
        accepted_is : (f : Verdict) (b m v : ℕ) → final_outcome w f bytes (t.records + n) ≡ accepted b m v → (b ≡ bytes) × (bytes ≤ file_limit)
        unfolding final_outcome
        accepted_is (Refusal k p) b m v q = absurd (never k p b m v q)
        accepted_is Good b m v q =
            less_or_not file_limit bytes
            (λ h. absurd (never 16 0 b m v (rw (size_big bytes h) at q)))
            λ h. (outcome_bytes (size_verdict bytes) bytes (t.records + n) w.version b m v q, h)

        pub left_last : Rest w x₀ head d₀ d' r
        left_last =
            record {
              answer = F.answer ∙ outcome_is;
              kept = F.kept ∙ kept;
              written = λ b m v q h.
                  let a = accepted_is (verdict_of t.fault) b m v (outcome_is ∙ q) in
                  let z = bytes_are (omega (arith, a.1)) in
                  F.written (omega (arith, a.0)) ∙ ap (laid d t.bytes) is ∙ L.filled (omega (arith, a.0)) (omega (arith, a.1));
            }

      -- no record is left
      pub left_end : (d' : List ℕ) (r : Answered Done Refused) → length d ≡ length d₀ → Left x₀ head d₀ d t st (stop Good) → Finished w d d' (w.closing st) t r
          → Rest w x₀ head d₀ d' r
      unfolding records_verdict
      left_end d' r kept L F =
          left_last (stop Good) (w.closing st) d' 0 r kept L refl refl (sym (encode_none st)) refl
          (record { answer = rw (add-zero t.records) F.answer; kept = F.kept; stays = F.stays; written = F.written })

  -- ---- the closing codes, written into the part of d from `from` on

  pub finish_closed : (d close : List ℕ) (t : Tally) (from : ℕ) (y : List ℕ) (m n : ℕ) → from ≤ length d → (t.bytes ≤ length d → from ≡ t.bytes)
      → Puts (take (length d - from) (drop from d)) y close m n → (r : Answered Done Refused)
      → answer_of r ≡ settled w.version (verdict_of t.fault) (t.bytes + n) t.records
      → Finished w d (take from d ++ (y ++ drop (length d - from) (drop from d))) close t r
  unfolding final_outcome
  finish_closed d close t from y m n inside q P r e =
      record {
        answer = rw P.size at e;
        kept = written_length d t.bytes from close y m n inside P;
        stays = written_stays d t.bytes from close y m n inside P q;
        written = λ h. written_there d t.bytes from close y m n inside P q (omega (arith, P.size));
      }

-- ---- `settle`

module _ (version bytes records : ℕ) where
  pub settle_big : file_limit < bytes → refused 16 0 ≡ settled version Good bytes records
  settle_big h = rw (size_big bytes h)

  pub settle_done : bytes ≤ file_limit → accepted bytes records version ≡ settled version Good bytes records
  settle_done h = rw (size_good bytes h, outcome_fits bytes records version)
