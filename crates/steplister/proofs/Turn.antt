-- A turn of the loop that gathers the records, on plain values. Assumes nothing.
use Rattle.std.specs.Prelude.{Result as Answer, Ok, Err}
use Prim.Native.Nat.{ℕ, ◌+◌, ◌*◌, ◌≤◌, ◌<◌}
use native.Mathlib.Omega.{arith}
use mathlib.Core.Path.{◌≡◌, refl, sym, ap, ◌∙◌, subst}
use mathlib.Core.List.{List, [], ◌∷◌, ◌++◌, append_assoc, append-nil}
use lib.ListN.{length, take, drop, length-append, length-drop}
use lib.Seq.{take_at}
use types.Run.{OneOf, miss}
use denote.Enum.Declared.{tag_of}
use borrow.Author.Tests.{ltb-false}
use Rattle.format.specs.Bytes.{over}
use Rattle.format.specs.Sheet.{sheet_version, layout, layout_all, record_limit}
use Rattle.format.specs.Refusals.{Result, stop, Verdict, Good, Refusal}
use Rattle.format.specs.Stepping.{Stand, before, stopped, StepOutcome, Step, open_stand}
use Rattle.format.specs.Answers.{stepped_of}
use Rattle.format.specs.declared.Refusal.{Refusal as Refused}
use Rattle.format.specs.declared.Stepped.{Stepped}
use Rattle.format.specs.declared.Stepped.TheVariants.{Record as RecordStep, Nothing, End as EndStep}
use Rattle.format.specs.contracts.Stepped.{the_type}
use Rattle.format.proofs.Basics.{pick_case}
use Rattle.wire.specs.Laid.{laid, laid_if}
use Rattle.wire.proofs.Laws.{laid_nil, laid_next, length_laid, laid_some}
use Rattle.step.specs.Standing.{stand_seen, Opens}
use Rattle.step.specs.Going.{next_record, next_buffer, Goes}
use Rattle.step.specs.declared.Stand.{Stand as Held}
use Rattle.step.specs.declared.Taken.{Taken}
use Rattle.step.proofs.GoingLaws.{next_answers}
use Rattle.steplister.specs.Steps.{left_of, Gathered}
use Rattle.steplister.proofs.Onward.{bytes_left, Makes, Says, on_says}

-- ---- the loop: the bytes laid in and those still to come are all

pub record Going (file old : List ℕ) (front : ℕ) (stand : Stand) (bytes : ℕ) (sheet : List ℕ) : Type 0 where
  pub past : List ℕ
  pub kept : length sheet ≡ length old
  pub verdict_is : (left_of stand file).verdict ≡ (left_of (open_stand file) file).verdict
  pub whole : past ++ layout_all sheet_version (left_of stand file).records ≡ layout_all sheet_version (left_of (open_stand file) file).records
  pub bytes_are : bytes ≡ front + length past
  pub few : bytes + record_limit * bytes_left stand file ≤ front + record_limit * length file
  pub laid_in : bytes ≤ length old → sheet ≡ laid old front past

left_most : (stand : Stand) (file : List ℕ) → bytes_left stand file ≤ length file
left_most (before version p st) file = let a = length-drop p file in omega (arith, a)
left_most (stopped v) file = omega arith

pub going_first : (file old : List ℕ) (front : ℕ) (h : Held) (label : List ℕ) → Opens h (open_stand file) → Going file old front (stand_seen h label) front old
going_first file old front h label O =
    rw (O.same label)
    (record {
      past = [];
      kept = refl;
      verdict_is = refl;
      whole = refl;
      bytes_are = omega arith;
      few = let l = left_most (open_stand file) file in omega (arith, l);
      laid_in = λ l. sym (laid_nil old front);
    })

length_laid_if : (d : List ℕ) (k : ℕ) (s : List ℕ) → length (laid_if d k s) ≡ length d
unfolding laid_if
length_laid_if d k s = pick_case (λ (x : List ℕ). length x ≡ length d) _ _ _ (λ e. refl) (λ e. length_laid d s k (ltb-false _ _ e))

module _ {file old : List ℕ} {front : ℕ} {h : Held} {label : List ℕ} {bytes : ℕ} {sheet : List ℕ} (G : Going file old front (stand_seen h label) bytes sheet)
    {held : List ℕ} (ample : record_limit ≤ length held) {t : Taken} {label' new : List ℕ} (S : Goes h label file held t label' new) where
  abbrev s : Step
  s = next_record (stand_seen h label) file (length held)

  -- what was answered
  says : (a : Answer Stepped Refused) → t.answer ≡ a → Says (stepped_of a) s (stand_seen h label) file
  says a e =
      subst (λ (b : StepOutcome). Says b s (stand_seen h label) file) (sym S.answer ∙ ap stepped_of e) (on_says file (length held) ample (stand_seen h label))

  -- ---- a record

  module _ (n k : ℕ) (e : t.answer ≡ Ok (RecordStep n k)) where
    makes : Makes s n (stand_seen h label) file
    makes = says (Ok (RecordStep n k)) e

    pub record_few : n ≤ record_limit
    record_few = makes.few

    -- the next stand is the one that was answered
    pub record_less : bytes_left (stand_seen t.stand label') file < bytes_left (stand_seen h label) file
    record_less = rw S.stand makes.less

    record_bytes : take n new ≡ layout sheet_version makes.the
    unfolding next_buffer over
    record_bytes =
        let R = layout sheet_version makes.the in
        ap (take n) (S.buffer ∙ ap (λ (b : List ℕ). over b held) makes.bytes_are) ∙ take_at R (drop (length R) held) n (sym makes.size)

    pub going_on : (next : List ℕ) → next ≡ laid_if sheet bytes (take n new) → Going file old front (stand_seen t.stand label') (bytes + n) next
    unfolding layout_all
    going_on next q =
        let R = layout sheet_version makes.the in
        let z = length-append G.past R in
        let w : next ≡ laid_if sheet bytes R = q ∙ ap (laid_if sheet bytes) record_bytes in
        let m = makes.left in
        rw S.stand
        (record {
          past = G.past ++ R;
          kept = ap length w ∙ length_laid_if sheet bytes R ∙ G.kept;
          verdict_is = ap (λ (x : Result). x.verdict) (sym m) ∙ G.verdict_is;
          whole = append_assoc G.past R _ ∙ ap (λ (x : Result). G.past ++ layout_all sheet_version x.records) (sym m) ∙ G.whole;
          bytes_are = omega (arith, G.bytes_are, makes.size, z);
          few = omega (arith, G.few, makes.few, makes.less);
          laid_in =
              λ l.
              let i : bytes ≤ length old = omega arith in
              let j : bytes + length R ≤ length sheet = omega (arith, makes.size, G.kept) in
              w ∙ laid_some sheet R bytes j
              ∙ ap (λ (d : List ℕ). laid d bytes R) (G.laid_in i)
              ∙ ap (λ (k : ℕ). laid (laid old front G.past) k R) G.bytes_are
              ∙ laid_next old G.past R front (omega (arith, G.bytes_are, i));
        })

  -- ---- the end, or a refusal

  ended : (v : Verdict) → left_of (stand_seen h label) file ≡ stop v → Gathered file old front bytes v sheet
  unfolding layout_all
  ended v L =
      let w : G.past ≡ layout_all sheet_version (left_of (open_stand file) file).records =
      sym (append-nil G.past) ∙ ap (λ (x : Result). G.past ++ layout_all sheet_version x.records) (sym L) ∙ G.whole in
      record {
        verdict_is = sym G.verdict_is ∙ ap (λ (x : Result). x.verdict) L;
        bytes_are = G.bytes_are ∙ ap (λ (x : List ℕ). front + length x) w;
        laid_in = λ l. G.laid_in l ∙ ap (laid old front) w;
      }

  pub gathered_all : (a : Stepped) → t.answer ≡ Ok a → OneOf (1 ∷ 2 ∷ []) (tag_of the_type a) → Gathered file old front bytes Good sheet
  gathered_all (RecordStep n k) e o = absurd (miss (1 ∷ 2 ∷ []) 0 tt o)
  gathered_all Nothing e o = absurd (next_answers (stand_seen h label) file (length held) (sym (ap stepped_of e) ∙ S.answer))
  gathered_all EndStep e o = ended Good (says (Ok EndStep) e)

  pub gathered_none : (r : Refused) → t.answer ≡ Err r
      → Gathered file old front (front + length (layout_all sheet_version (left_of (open_stand file) file).records)) (Refusal r.number r.place) sheet
  gathered_none r e =
      let E = ended (Refusal r.number r.place) (says (Err r) e) in
      subst (λ (b : ℕ). Gathered file old front b (Refusal r.number r.place) sheet) E.bytes_are E
