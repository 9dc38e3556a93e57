-- Making the summary, and bringing it up to date. Marks that stand in the first words, with spare bits cleared and totals behind them, are the
-- summary of those marks (Whole); so it is enough to know the bits: of a sheet's records in making, and of the three parts of the edited
-- records in bringing up to date. Assumes nothing.
use Rattle.std.proofs.Common.{◌≡◌, ℕ, ◌+◌, ◌-◌, ◌*◌, ◌<◌, ◌≤◌, max, Bool, false, List, ◌++◌, length, get_or, take, drop, sym, refl, ap, ◌∙◌, subst, ap₂, zero-add, arith, length-take-le, get_or-drop, get_or-take, get_or-append-add, le-ltb, lt-ltb}
use lib.ListN.{get_or-append}
use Rattle.format.specs.Bytes.{pick, over}
use Rattle.format.specs.Refusals.{Result, Good, Refusal}
use Rattle.format.specs.Sheet.{good_front, version_of, version_result, sheet_version, sheet_result, records_of}
use Rattle.format.specs.Summary.{one, marks_in, words_for, needed, summary, bit_at, marks_of, takes, untaken, made_outcome, made_words, summary_outcome, summary_words, edited_marks, count_verdict, updated_outcome, update_outcome, update_words}
use Rattle.format.proofs.Basics.{less_or_not, pick_true, pick_false}
use Rattle.format.proofs.SummaryWords.{marks_ext, mark_of_bit, length_marks_of, length_summary}
use Rattle.format.proofs.SummaryLaws.{length_edited}
use Rattle.sheet.specs.Seen.{Fronted}
use Rattle.summary.specs.Bits.{Put}
use Rattle.summary.proofs.Whole.{over_agree}

-- ---- making

-- the marks of all records stand in the words, and the words are finished
pub made : (ws ws₁ ws₂ : List ℕ) (ms : List Bool) (n : ℕ) → length ms ≡ n → length ws₁ ≡ length ws → Put ws ws₁ 0 0 n (λ i. one (get_or ms i false))
    → ws₂ ≡ over (summary (marks_of n ws₁)) ws₁ → ws₂ ≡ over (summary ms) ws
made ws ws₁ ws₂ ms n l e P q =
    q
    ∙ ap (λ (x : List Bool). over (summary x) ws₁) (marks_ext n ws₁ ms l (λ i h. ap (bit_at ws₁) (sym (zero-add i)) ∙ P.inside i (omega arith) h))
    ∙ over_agree (summary ms) ws ws₁ e (λ j h. P.beyond j (let d = length_summary ms ∙ ap needed l in omega arith))

module _ (x : Result) (ws : List ℕ) where
  pub make_flawed : (k n : ℕ) → x.verdict ≡ Refusal k n → (untaken k n ≡ made_outcome x (length ws)) × (ws ≡ made_words x ws)
  make_flawed k n e = rw e (refl, refl)

  module _ (n w : ℕ) (good : x.verdict ≡ Good) (many : length x.records ≡ n) (e : w ≡ words_for n) where
    pub make_short : length ws < 2 * w → (untaken 11 (2 * w) ≡ made_outcome x (length ws)) × (ws ≡ made_words x ws)
    unfolding pick
    make_short h = let g : length ws < needed n = omega arith in rw (good, many, e, lt-ltb (length ws) (needed n) g) (refl, refl)

    pub make_done : (ws₂ : List ℕ) → 2 * w ≤ length ws → ws₂ ≡ over (summary (marks_in x.records)) ws
        → (takes (2 * w) ≡ made_outcome x (length ws)) × (ws₂ ≡ made_words x ws)
    unfolding pick
    make_done ws₂ h q = let g : needed n ≤ length ws = omega arith in rw (good, many, e, le-ltb (length ws) (needed n) g) (refl, q)

-- the whole sheet; v is the version that it is judged by
module _ (v : ℕ) (sheet ws : List ℕ) (q : v ≡ version_of sheet) where
  pub whole_flawed : good_front v sheet ≡ false → (untaken 12 0 ≡ summary_outcome sheet (length ws)) × (ws ≡ summary_words sheet ws)
  unfolding summary_outcome summary_words sheet_result version_result pick
  whole_flawed e = rw (← q, e) (refl, refl)

  pub whole_records : {extended k m : ℕ} → Fronted v sheet extended k m → sheet_result sheet ≡ records_of v (drop (7 + k + m) sheet)
  unfolding sheet_result version_result pick
  whole_records F = rw (← q) (simp (F.good, F.behind))

-- ---- the edited marks

module _ (ms new : List Bool) (first from : ℕ) (h : first ≤ from) (g : from ≤ length ms) where
  abbrev after : List Bool
  after = edited_marks ms first (from - first) new

  cut : length (take first ms) ≡ first
  cut = length-take-le first ms (omega arith)

  edited_before : (i : ℕ) → i < first → get_or after i false ≡ get_or ms i false
  unfolding edited_marks
  edited_before i p =
      get_or-append (take first ms) (new ++ drop (first + (from - first)) ms) false i (subst (λ (k : ℕ). i < k) (sym cut) p) ∙ get_or-take first ms i false p

  later : (i : ℕ) → first ≤ i → get_or after i false ≡ get_or (new ++ drop (first + (from - first)) ms) (i - first) false
  unfolding edited_marks
  later i p =
      let d : i ≡ length (take first ms) + (i - first) = omega (arith, cut) in
      ap (λ (k : ℕ). get_or after k false) d ∙ get_or-append-add (take first ms) (new ++ drop (first + (from - first)) ms) (i - first) false

  edited_in : (i : ℕ) → i < length new → get_or after (first + i) false ≡ get_or new i false
  edited_in i p =
      let d : first + i - first ≡ i = omega arith in
      later (first + i) (omega arith)
      ∙ ap (λ (k : ℕ). get_or (new ++ drop (first + (from - first)) ms) k false) d
      ∙ get_or-append new (drop (first + (from - first)) ms) false i p

  edited_after : (i : ℕ) → get_or after (first + length new + i) false ≡ get_or ms (from + i) false
  edited_after i =
      let d : first + length new + i - first ≡ length new + i = omega arith in
      let f : first + (from - first) + i ≡ from + i = omega arith in
      later (first + length new + i) (omega arith)
      ∙ ap (λ (k : ℕ). get_or (new ++ drop (first + (from - first)) ms) k false) d
      ∙ get_or-append-add new (drop (first + (from - first)) ms) i false
      ∙ get_or-drop (first + (from - first)) ms i false
      ∙ ap (λ (k : ℕ). get_or ms k false) f

-- ---- bringing up to date

-- the marks behind the run have moved, those of the added records stand between, and the words are finished
module _ (ws ws₁ ws₂ ws₃ : List ℕ) (new : List Bool) (first from rest added : ℕ) (many : length new ≡ added) (h : first ≤ from) (e : length ws₂ ≡ length ws)
    (P : Put ws ws₁ (first + added) 0 rest (λ i. bit_at ws (from + i))) (Q : Put ws₁ ws₂ first 0 added (λ i. one (get_or new i false)))
    (q : ws₃ ≡ over (summary (marks_of (first + added + rest) ws₂)) ws₂) where
  abbrev ms : List Bool
  ms = marks_of (from + rest) ws

  abbrev next : List Bool
  next = edited_marks ms first (from - first) new

  long_old : length ms ≡ from + rest
  long_old = length_marks_of (from + rest) ws

  inside : from ≤ length ms
  inside = omega (arith, long_old)

  long_next : length next ≡ first + added + rest
  long_next = length_edited ms first (from - first) new (omega (arith, inside)) ∙ omega (arith, many, long_old)

  bits : (i : ℕ) → i < first + added + rest → bit_at ws₂ i ≡ one (get_or next i false)
  bits i p =
      less_or_not i first
      (λ g.
      Q.below i (omega arith) ∙ P.below i (omega arith) ∙ sym (mark_of_bit (from + rest) ws i (omega arith))
      ∙ ap one (sym (edited_before ms new first from h inside i g)))
      (λ g.
      less_or_not i (first + added)
      (λ f.
      let d : first + (i - first) ≡ i = omega arith in
      ap (bit_at ws₂) (sym d)
      ∙ Q.inside (i - first) (omega arith) (omega arith)
      ∙ ap one (sym (edited_in ms new first from h inside (i - first) (omega (arith, many))))
      ∙ ap (λ (k : ℕ). one (get_or next k false)) d)
      (λ f.
      let d : first + added + (i - (first + added)) ≡ i = omega arith in
      let z : first + length new + (i - (first + added)) ≡ i = omega (arith, many) in
      Q.above i f
      ∙ ap (bit_at ws₁) (sym d)
      ∙ P.inside (i - (first + added)) (omega arith) (omega arith)
      ∙ sym (mark_of_bit (from + rest) ws (from + (i - (first + added))) (omega arith))
      ∙ ap one (sym (edited_after ms new first from h inside (i - (first + added))))
      ∙ ap (λ (k : ℕ). one (get_or next k false)) z))

  pub replaced : ws₃ ≡ over (summary next) ws
  replaced =
      q
      ∙ ap (λ (l : List Bool). over (summary l) ws₂) (marks_ext (first + added + rest) ws₂ next long_next bits)
      ∙ over_agree (summary next) ws ws₂ e
      (λ j g.
      let d = length_summary next ∙ ap needed long_next in
      Q.beyond j (omega arith) ∙ P.beyond j (omega arith))

module _ (ws new : List ℕ) (n first count : ℕ) where
  abbrev x : Result
  x = records_of sheet_version new

  refused : (a p : ℕ) → updated_outcome n first count x (length ws) ≡ untaken a p
      → (untaken a p ≡ updated_outcome n first count x (length ws)) × (ws ≡ update_words n first count new ws)
  unfolding update_outcome update_words
  refused a p e = (sym e, rw e refl)

  pub update_past : n < first + count → (untaken 15 n ≡ update_outcome n first count new (length ws)) × (ws ≡ update_words n first count new ws)
  unfolding update_outcome count_verdict
  update_past h = refused 15 n (rw (pick_true (Refusal 15 n) Good (lt-ltb n (first + count) h)) refl)

  module _ (h : first + count ≤ n) where
    run_good : count_verdict n first count ≡ Good
    unfolding count_verdict
    run_good = pick_false (Refusal 15 n) Good (le-ltb n (first + count) h)

    pub update_flawed : (j k : ℕ) → (records_of sheet_version new).verdict ≡ Refusal j k
        → (untaken j k ≡ update_outcome n first count new (length ws)) × (ws ≡ update_words n first count new ws)
    unfolding update_outcome
    update_flawed j k e = refused j k (rw (run_good, e) refl)

    module _ (added w v : ℕ) (good : (records_of sheet_version new).verdict ≡ Good) (many : length (records_of sheet_version new).records ≡ added)
        (ew : w ≡ words_for (n - count + added)) (ev : v ≡ words_for n) where
      most : (m : ℕ) → m ≡ max (2 * v) (2 * w) → max (needed n) (needed (n - count + length x.records)) ≡ m
      most m em = rw many (sym (em ∙ ap₂ (λ (a b : ℕ). max (2 * a) (2 * b)) ev ew))

      pub update_short : (m : ℕ) → length ws < m → m ≡ max (2 * v) (2 * w) → (untaken 11 m ≡ updated_outcome n first count (records_of sheet_version new) (length ws)) × (ws ≡ update_words n first count new ws)
      unfolding pick
      update_short m g em = refused 11 m (rw (run_good, good, most m em, lt-ltb (length ws) m g) refl)

      -- the words that `replace` leaves
      pub update_done : (ws₃ : List ℕ) (m : ℕ) → m ≤ length ws → m ≡ max (2 * v) (2 * w)
          → ws₃ ≡ over (summary (edited_marks (marks_of (first + count + (n - (first + count))) ws) first (first + count - first) (marks_in (records_of sheet_version new).records))) ws
          → (takes (2 * w) ≡ updated_outcome n first count (records_of sheet_version new) (length ws)) × (ws₃ ≡ update_words n first count new ws)
      unfolding update_outcome update_words pick
      update_done ws₃ m g em q =
          let e : updated_outcome n first count x (length ws) ≡ takes (2 * w) = rw (run_good, good, most m em, le-ltb (length ws) m g, many) (ap (λ (a : ℕ). takes (2 * a)) (sym ew)) in
          let l : first + count + (n - (first + count)) ≡ n = omega (arith, h) in
          let d : first + count - first ≡ count = omega arith in
          (sym e, rw (l, d) at q ∙ rw e refl)
