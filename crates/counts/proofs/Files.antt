-- A header and then records, in two passes: the first, lent no bytes, gives the answer. Assumes nothing.
use Prim.Native.Nat.{ℕ, ◌+◌, ◌≤◌, ◌<◌}
use mathlib.Core.Path.{◌≡◌, sym, ap, ap₂, ◌∙◌, refl}
use mathlib.Core.List.{List, ◌++◌}
use native.Mathlib.Omega.{arith}
use lib.ListN.{length, take, drop, length-append}
use lib.Seq.{length-take-le}
use borrow.Author.Tests.{lt-ltb, le-ltb}
use Rattle.format.specs.Bytes.{over}
use Rattle.format.specs.Header.{Header}
use Rattle.format.specs.Refusals.{Result, Outcome, accepted, refused, buffer_of}
use Rattle.format.specs.Writing.{Writer, file_of, writing_verdict, filed_outcome, written_outcome}
use Rattle.std.specs.Prelude.{Result as Answered, Ok, Err}
use Rattle.format.specs.Answers.{answer_of}
use Rattle.format.specs.declared.Refusal.{Refusal}
use Rattle.format.specs.declared.Done.{Done}
use Rattle.format.proofs.RefusalLaws.{outcome_bytes, capped, outcome_capped}
use Rattle.format.proofs.Basics.{pick_true, pick_false}
use Rattle.wire.specs.Laid.{laid}
use Rattle.wire.proofs.Laws.{none_before, laid_zero, laid_next, over_within}
use Rattle.part.specs.Lays.{Puts}
use Rattle.counts.specs.Tallies.{encoded, rest_outcome, Rest, file_outcome, Passed, Writes}

-- ---- one pass: the header, and the records behind it

module _ (w : Writer) (h : Header) (x : Result) (d e f : List ℕ) (most head : ℕ) (r : Answered Done Refusal) (P : Puts d e (w.head h) most head)
    (R : Rest w x head e f r) where
  file_is : file_of w h x.records ≡ w.head h ++ encoded w x
  unfolding file_of
  file_is = refl

  length_is : length (file_of w h x.records) ≡ head + length (encoded w x)
  length_is = ap length file_is ∙ length-append (w.head h) (encoded w x) ∙ ap (λ (i : ℕ). i + length (encoded w x)) (sym P.size)

  outcome_is : file_outcome w h x ≡ rest_outcome w head x
  unfolding written_outcome
  outcome_is = rw length_is

  bytes_are : (b n v : ℕ) → rest_outcome w head x ≡ accepted b n v → b ≡ head + length (encoded w x)
  unfolding filed_outcome
  bytes_are b n v q = let bytes = head + length (encoded w x) in outcome_bytes (writing_verdict w x bytes) bytes (length x.records) w.version b n v q

  pub pass_whole : Passed w h x d f r
  pass_whole =
      record {
        answer = R.answer ∙ sym outcome_is;
        kept = R.kept ∙ P.kept;
        written = λ b n v q l.
            let q' = sym outcome_is ∙ q in
            let z = bytes_are b n v q' in
            let u = R.written b n v q' (omega (arith, P.kept)) in
            let y : e ≡ laid d 0 (w.head h) = P.written (omega arith) ∙ sym (laid_zero d (w.head h)) in
            u ∙ ap₂ (λ (s : List ℕ) (i : ℕ). laid s i (encoded w x)) y (P.size ∙ omega arith)
            ∙ laid_next d (w.head h) (encoded w x) 0 (omega arith) ∙ laid_zero d (w.head h ++ encoded w x) ∙ sym (rw file_is);
      }

-- ---- both passes

module _ (w : Writer) (h : Header) (x : Result) (old : List ℕ) where
  abbrev due : Outcome
  due = written_outcome w h x (length old)

  abbrev file : List ℕ
  file = file_of w h x.records

  due_is : due ≡ capped (file_outcome w h x) (length old)
  unfolding written_outcome filed_outcome
  due_is = outcome_capped (writing_verdict w x (length file)) (length file) (length x.records) w.version (length old)

  file_refused : (k p : ℕ) → refused k p ≡ file_outcome w h x → (refused k p ≡ due) × (old ≡ buffer_of due file old)
  file_refused k p e = let z : due ≡ refused k p = due_is ∙ rw (← e) in (sym z, rw z)

  module _ (b n v : ℕ) (e : accepted b n v ≡ file_outcome w h x) where
    file_small : length old < b → (refused 11 b ≡ due) × (old ≡ buffer_of due file old)
    file_small l = let z : due ≡ refused 11 b = due_is ∙ rw (← e) (pick_true _ _ (lt-ltb (length old) b l)) in (sym z, rw z)

    done : b ≤ length old → (accepted b n v ≡ due) × (over file old ≡ buffer_of due file old)
    done l = let z : due ≡ accepted b n v = due_is ∙ rw (← e) (pick_false _ _ (le-ltb (length old) b l)) in (sym z, rw z)

    file_bytes : b ≡ length file
    unfolding written_outcome filed_outcome
    file_bytes = outcome_bytes (writing_verdict w x (length file)) (length file) (length x.records) w.version b n v (sym e)

    -- the second pass is lent just the bytes that are needed
    file_done : (l : b ≤ length old) (y : List ℕ) (r : Answered Done Refusal) → Passed w h x (take b old) y r
        → (answer_of r ≡ due) × (y ++ drop b old ≡ buffer_of due file old)
    file_done l y r P =
        let k = length-take-le b old l in
        let q = P.written b n v (sym e) (omega arith) in
        let d = done l in
        (P.answer ∙ sym e ∙ d.0, ap (λ (s : List ℕ). s ++ drop b old) q ∙ over_within old file b (omega (arith, file_bytes)) l ∙ d.1)

  -- the first pass was lent none of the bytes, and left y of them
  module _ (y : List ℕ) (a : Answered Done Refusal) (none : length y ≡ 0) (told : answer_of a ≡ file_outcome w h x) where
    lent : y ++ old ≡ old
    lent = none_before y old none

    pub passes_refused : {k : Refusal} → a ≡ Err k → Writes w h x old (y ++ old) (Err k)
    passes_refused {k} q = let z = file_refused k.number k.place (rw q at told) in record { answer = z.0; buffer = lent ∙ z.1 }

    pub passes_small : {e : Done} → a ≡ Ok e → length (y ++ old) < e.bytes
        → Writes w h x old (y ++ old) (Err (record { number = 11; place = e.bytes }))
    passes_small {e} q l =
        let z = file_small e.bytes e.records e.version (rw q at told) (rw lent at l) in record { answer = z.0; buffer = lent ∙ z.1 }

    pub passes_done : {e : Done} → a ≡ Ok e → e.bytes ≤ length (y ++ old) → {f : List ℕ} {r : Answered Done Refusal}
        → Passed w h x (take e.bytes (y ++ old)) f r → Writes w h x old (f ++ drop e.bytes (y ++ old)) r
    passes_done {e} q l {f} {r} P =
        let z = file_done e.bytes e.records e.version (rw q at told) (rw lent at l) f r (rw lent at P) in
        record { answer = z.0; buffer = rw lent z.1 }
