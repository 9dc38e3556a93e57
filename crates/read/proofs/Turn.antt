-- A turn of a pass's loop, and the two passes together, on plain values. Assumes nothing.
use mathlib.Core.Path.{◌≡◌, refl, sym, ap, ◌∙◌}
use mathlib.Core.List.{List, [], ◌++◌, append_assoc, append-nil}
use Prim.Native.Nat.{ℕ, ◌+◌, ◌-◌, ◌*◌, ◌≤◌}
use native.Mathlib.Omega.{arith}
use lib.ListN.{length, take, drop, length-append}
use lib.Seq.{length-take-le, take_all, drop-length}
use Rattle.format.specs.Bytes.{over}
use Rattle.format.specs.State.{State, start_setting, start, Next}
use Rattle.format.specs.Sheet.{sheet_version, layout, layout_all}
use Rattle.format.specs.Refusals.{Result, stop, Refusal, Verdict}
use Rattle.format.specs.Reading.{next, ended, run, items_of}
use Rattle.format.specs.Fields.{record_of, state_of, record_size}
use Rattle.format.specs.declared.Fields.{Fields}
use Rattle.format.proofs.ReadingLaws.{Within, there_within, left_bad, left_on, left_made}
use Rattle.wire.specs.Laid.{laid}
use Rattle.wire.proofs.Laws.{laid_within, length_over, laid_zero, laid_next}
use Rattle.layout.specs.Freely.{LaidFreely}
use Rattle.label.specs.declared.Label.{Label}
use Rattle.item.specs.Seen.{seen, Tells}
use Rattle.std.specs.Prelude.{Result as Answer, Ok, Err}
use Rattle.format.specs.Faults.{fault_number}
use Rattle.format.specs.declared.Fault.{Fault}
use Rattle.format.specs.declared.Setting.{Setting}
use Rattle.item.specs.declared.Step.{Step}
use Rattle.item.specs.declared.Step.TheVariants.{End, On, Made}
use Rattle.format.proofs.SheetLaws.{layout_size}
use Rattle.measure.specs.Totals.{Total, total_by, pass_of}
use Rattle.measure.proofs.Sums.{pass_also, pass_stop}
use Rattle.measure.proofs.Turn.{left_end}
use Rattle.read.specs.Turning.{LaidBy}

-- ---- a record is laid in just where one is made

-- what a step tells, laid in
pub told_laid : (n m : ℕ) (st : Setting) (f : Fields) (kept : ℕ) (b d d' : List ℕ) (k : ℕ) (x : Next) → Tells (Ok (Made n m st f kept)) b x
    → LaidFreely d d' k (layout sheet_version (record_of f (take m b))) → LaidBy x d d' k
told_laid n m st f kept b d d' k x T L = rw (← T.same) L

-- ---- where a pass stands

pub record Stands (file : List ℕ) (at : ℕ) (label : Label) : Type 0 where
  pub inside : at ≤ length file
  pub short : label.len ≤ 4096
  pub whole : length label.bytes ≡ 4096

abbrev pub text : Label → List ℕ
text label = take label.len label.bytes

-- what the file comes to from there on
abbrev pub left : ℕ → List ℕ → ℕ → Setting → Label → Result
left version file at setting label = run version at (drop at file) (state_of setting (text label))

-- what an item's step tells there
abbrev pub Found : ℕ → List ℕ → ℕ → Setting → Label → Answer Step Fault → List ℕ → Type 0
Found version file at setting label it b = Tells it b (next version (take (length file - at) (drop at file)) (state_of setting (text label)))

-- ---- the loop: what is left of the file, with the counts and the sheet so far, comes to the same as the whole

-- `front` is where the first record goes, `place` the first item's place
pub record Going (version : ℕ) (file : List ℕ) (place : ℕ) (sheet₀ : List ℕ) (front : ℕ) (sheet : List ℕ) (at out records : ℕ) (setting : Setting)
    (label : Label) : Type 0 where
  pub stands : Stands file at label
  pub kept : length sheet ≡ length sheet₀
  pub out_few : out ≤ front + 4130 * at
  pub records_few : records ≤ at
  pub answer : pass_of out records (left version file at setting label) ≡ pass_of front 0 (items_of version place file)
  pub sheet_is : front + length (layout_all sheet_version (items_of version place file).records) ≤ length sheet₀
      → take out sheet ++ layout_all sheet_version (left version file at setting label).records
      ≡ take front sheet₀ ++ layout_all sheet_version (items_of version place file).records

-- the state at the start
fresh_state : (setting : Setting) (label : Label) → setting ≡ start_setting → label.len ≡ 0 → state_of setting (text label) ≡ start
fresh_state setting label f e = rw (f, e)

pub going_first : (version : ℕ) (file : List ℕ) (place : ℕ) (sheet : List ℕ) (front : ℕ) (setting : Setting) (label : Label)
    → setting ≡ start_setting → label.len ≡ 0
    → place ≤ length file → length label.bytes ≡ 4096 → Going version file place sheet front sheet place front 0 setting label
unfolding items_of
going_first version file place sheet front setting label f z h w =
    let e = fresh_state setting label f z in
    record {
      stands = record { inside = h; short = omega arith; whole = w };
      kept = refl;
      out_few = omega arith;
      records_few = omega arith;
      answer = ap (λ (st : State). pass_of front 0 (run version place (drop place file) st)) e;
      sheet_is = λ h. ap (λ (st : State). take front sheet ++ layout_all sheet_version (run version place (drop place file) st).records) e;
    }

module _ (version : ℕ) (file : List ℕ) (place : ℕ) (sheet₀ : List ℕ) (front : ℕ) (sheet : List ℕ) (at out records : ℕ)
    (setting : Setting) (label : Label)
    (G : Going version file place sheet₀ front sheet at out records setting label) where
  abbrev state : State
  state = state_of setting (text label)

  abbrev pub Laid : List ℕ → Type 0
  Laid s = LaidBy (next version (take (length file - at) (drop at file)) state) sheet s out

  abbrev all : List ℕ
  all = layout_all sheet_version (items_of version place file).records

  -- the records that are left end where the whole sheet does
  bytes_left_lem : out + length (layout_all sheet_version (left version file at setting label).records) ≡ front + length all
  unfolding pass_of
  bytes_left_lem = ap (λ (q : Total). q.bytes) G.answer

  -- the pass ends here
  abbrev pub Ends : Total → List ℕ → Type 0
  Ends a s = (a ≡ pass_of front 0 (items_of version place file)) × LaidFreely sheet₀ s front all

  ends : {v : Verdict} {s : List ℕ} → left version file at setting label ≡ stop v → s ≡ sheet → Ends (total_by v out records) s
  unfolding layout_all
  ends {v} {s} e q =
      let n : out ≡ front + length all = let z = rw e at bytes_left_lem in omega arith in (
        sym (pass_stop out records v) ∙ rw e at G.answer,
        record {
          kept = ap length q ∙ G.kept;
          front = λ h. rw (← n, q) (sym (append-nil (take out sheet)) ∙ rw e at (G.sheet_is h));
        },
      )

  pub ends_bad : (k : Fault) (b s : List ℕ) → Found version file at setting label (Err k) b → s ≡ sheet → Ends (total_by (Refusal (fault_number k) at) out records) s
  ends_bad k b s T e = ends (left_bad version file at state T.same) e

  pub ends_end : (b s : List ℕ) → Found version file at setting label (Ok End) b → s ≡ sheet
      → Ends (total_by (ended at (take (length file - at) (drop at file))) out records) s
  ends_end b s T e = ends (left_end version file at state T.same) e

  -- the item's bytes are there; which buffer they are seen by is all one
  pub item_within : (it : Answer Step Fault) (b : List ℕ) → Found version file at setting label it b → Within (length file) at (seen it [])
  item_within (Err k) b T = tt
  item_within (Ok End) b T = tt
  item_within (Ok (On n m st)) b T = there_within version file at state G.stands.inside T.same
  item_within (Ok (Made n m st f kept)) b T = there_within version file at state G.stands.inside T.same

  pub going_on : (n m : ℕ) (st : Setting) (b s : List ℕ) → Found version file at setting label (Ok (On n m st)) b → Laid s
      → Going version file place sheet₀ front s (at + n) out records st (record { bytes = b; len = m })
  going_on n m st b s T e =
      let z = item_within (Ok (On n m st)) b T in
      let q : s ≡ sheet = rw (← T.same) at e in
      let l = left_on version file at state T.same in
      record {
        stands = record { inside = z.1; short = T.short; whole = T.whole };
        kept = ap length q ∙ G.kept;
        out_few = omega (arith, G.out_few);
        records_few = omega (arith, G.records_few);
        answer = rw l at G.answer;
        sheet_is = λ h. rw q (rw l at (G.sheet_is h));
      }

  pub going_made : (n m size : ℕ) (st : Setting) (f : Fields) (own : ℕ) (b s : List ℕ)
      → Found version file at setting label (Ok (Made n m st f own)) b → Laid s
      → (size ≡ record_size f m) × (size ≤ 4130) → Going version file place sheet₀ front s (at + n) (out + size) (records + 1) st (record { bytes = b; len = m })
  unfolding layout_all
  going_made n m size st f own b s T e q =
      let z = item_within (Ok (Made n m st f own)) b T in
      let r = record_of f (take m b) in
      let t : length (take m b) ≡ m = length-take-le m b (omega (arith, T.short, T.whole)) in
      let k : size ≡ length (layout sheet_version r) = q.0 ∙ sym (layout_size f (take m b) ∙ rw t) in
      let R = layout sheet_version r in
      let y : LaidFreely sheet s out R = rw (← T.same) at e in
      let l = left_made version file at state T.same in
      record {
        stands = record { inside = z.1; short = T.short; whole = T.whole };
        kept = y.kept ∙ G.kept;
        out_few = omega (arith, G.out_few, q.1);
        records_few = omega (arith, G.records_few);
        answer = rw k (sym (pass_also out records r _) ∙ rw l at G.answer);
        sheet_is = λ h.
            let w = rw l at bytes_left_lem in
            let rest = layout_all sheet_version (left version file (at + n) st (record { bytes = b; len = m })).records in
            let c = length-append R rest in
            let fits : out + length R ≤ length sheet = omega (arith, h, G.kept, w, c) in
            rw k (ap (λ (x : List ℕ). x ++ rest) (y.front fits)
            ∙ append_assoc (take out sheet) R rest
            ∙ rw l at (G.sheet_is h));
      }

-- ---- what is laid behind the front of a sheet, just to its end

-- no byte stands behind what is laid
whole_laid : (d d' s : List ℕ) (k : ℕ) → k + length s ≡ length d → LaidFreely d d' k s → d' ≡ laid d k s
unfolding laid
whole_laid d d' s k e L =
    let n : length d' ≡ k + length s = L.kept ∙ sym e in
    let z : drop (k + length s) d ≡ [] = rw e (drop-length d) in
    sym (take_all (k + length s) d' (omega arith)) ∙ L.front (omega arith) ∙ rw (z, append-nil s)

pub filled_behind : (front rest old y s : List ℕ) (k b : ℕ) → length front ≡ k → b ≡ k + length rest → b ≤ length old → s ≡ over front old
    → LaidFreely (take b s) y k rest → y ++ drop b s ≡ over (front ++ rest) old
filled_behind front rest old y s k b f e h p L =
    let m : length s ≡ length old = ap length p ∙ length_over front old (omega arith) in
    let n : length (take b s) ≡ b = length-take-le b s (omega arith) in
    let z : k ≡ 0 + length front = omega arith in
    ap (λ (x : List ℕ). x ++ drop b s) (whole_laid (take b s) y rest k (omega arith) L)
    ∙ laid_within s rest k b (omega arith) (omega arith)
    ∙ ap (λ (d : List ℕ). laid d k rest) (p ∙ sym (laid_zero old front))
    ∙ ap (λ (i : ℕ). laid (laid old 0 front) i rest) z
    ∙ laid_next old front rest 0 (omega arith)
    ∙ laid_zero old (front ++ rest)
