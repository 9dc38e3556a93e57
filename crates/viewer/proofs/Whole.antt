-- A sheet whole: its box says whether a leg is too far, its legs are counted, and each arm of the code answers and leaves what is due.
-- Assumes nothing.
use Rattle.format.specs.Refusals.{Good, Refusal}
use Prim.Native.Nat.{ℕ, ◌*◌, ◌≤◌, ◌<◌}
use mathlib.Core.Path.{◌≡◌, refl, sym, ap, ◌∙◌, subst}
use mathlib.Core.List.{List, []}
use mathlib.Core.Bool.{false}
use native.Mathlib.Omega.{arith}
use borrow.Author.Tests.{le-ltb}
use lib.ListN.{length}
use lib.Ieee.{Float}
use Rattle.format.specs.Bytes.{Bytes}
use Rattle.format.specs.Sheet.{sheet_result}
use Rattle.format.specs.Reach.{unspanned, reach_of}
use Rattle.format.specs.Viewer.{less_origin, all_legs, too_far, far_verdict, ViewOutcome, viewed, unviewed, view_of, numbers_over, view_differences, view_buffer, ViewExact}
use Rattle.format.specs.declared.Corner.{Corner}
use Rattle.format.specs.declared.Origin.{Origin}
use Rattle.format.proofs.Basics.{pick_false}
use Rattle.format.proofs.ReachLaws.{reach_spans}
use Rattle.format.proofs.ViewerLaws.{differences_length, legs_few, all_near, box_near, view_none, view_refused, view_far, view_short, view_exact}
use Rattle.viewer.specs.Viewing.{Boxed, Counted, Fits}

-- ---- the box of all legs

pub boxed_good : {sheet : List ℕ} {least greatest : Corner} → Boxed sheet least greatest → (sheet_result sheet).verdict ≡ Good
boxed_good {sheet} B = (reach_spans sheet [] _ B.legs B.same).0

pub boxed_count : {sheet : List ℕ} {least greatest : Corner} (B : Boxed sheet least greatest) → B.legs ≡ length (all_legs (sheet_result sheet).records)
boxed_count {sheet} B = (reach_spans sheet [] _ B.legs B.same).1.count

pub boxed_near : {sheet : List ℕ} {least greatest : Corner} → Boxed sheet least greatest → (o : Origin) → too_far (less_origin o least) ≡ false
    → too_far (less_origin o greatest) ≡ false → Good ≡ far_verdict o 0 (sheet_result sheet).records
boxed_near {sheet} {least} {greatest} B o e f =
    sym (all_near o 0 (sheet_result sheet).records (box_near o _ least greatest B.legs (reach_spans sheet [] _ B.legs B.same).1 e f))

-- ---- what is due: the answer, the numbers, and that each is exactly its difference

abbrev pub Due : List ℕ → Origin → List Float → ViewOutcome → List Float → Type 0
Due sheet o old answer out = (answer ≡ view_of sheet o (length old)) × (out ≡ view_buffer sheet o old)

abbrev pub AllDue : List ℕ → Origin → List Float → ViewOutcome → List Float → Type 0
AllDue sheet o old answer out =
    (answer ≡ view_of sheet o (length old)) × ((out ≡ view_buffer sheet o old) × ViewExact sheet o (length old) out)

module _ (sheet : List ℕ) (o : Origin) (old : List Float) where
  pub all_due : (answer : ViewOutcome) (out : List Float) → Due sheet o old answer out → AllDue sheet o old answer out
  all_due answer out d =
      (d.0, (d.1, subst (λ (x : List Float). ViewExact sheet o (length old) x) (sym d.1) (view_exact sheet o old)))

  -- a refusal leaves the buffer
  refusal_due : (k p : ℕ) → view_of sheet o (length old) ≡ unviewed k p → Due sheet o old (unviewed k p) old
  unfolding view_buffer
  refusal_due k p e = (sym e, rw e refl)

  pub refused_due : (k p : ℕ) → unspanned k p ≡ reach_of sheet [] → (k ≡ 21 → ⊥) → AllDue sheet o old (unviewed k p) old
  refused_due k p e h = all_due _ _ (refusal_due k p (view_refused sheet o (length old) k p (sym e) h))

  pub none_due : (k p : ℕ) → unspanned k p ≡ reach_of sheet [] → k ≡ 21 → AllDue sheet o old (viewed 0) old
  unfolding view_buffer numbers_over
  none_due k p e h =
      let z = view_none sheet o (length old) k p (sym e) h in
      all_due _ _ (sym z.0, rw (z.0, z.1) refl)

  pub far_due : {least greatest : Corner} → Boxed sheet least greatest → (k p : ℕ) → Refusal k p ≡ far_verdict o 0 (sheet_result sheet).records
      → AllDue sheet o old (unviewed k p) old
  far_due B k p e = all_due _ _ (refusal_due k p (view_far sheet o (length old) k p (boxed_good B) (sym e)))

  -- so many legs, none of which is too far
  module _ (legs : ℕ) (C : Counted sheet o legs) where
    needed : length (view_differences sheet o) ≡ 6 * legs
    unfolding view_differences
    needed = differences_length o (all_legs (sheet_result sheet).records) ∙ ap (λ (n : ℕ). 6 * n) (sym C.count)

    pub needed_few : Bytes sheet → 6 * legs ≤ length sheet
    needed_few b = rw C.count (legs_few sheet b C.within.good)

    pub short_due : length old < 6 * legs → Due sheet o old (unviewed 11 (6 * legs)) old
    short_due h =
        refusal_due 11 (6 * legs) (rw needed at (view_short sheet o (length old) C.within.good C.within.near (omega (arith, needed))))

    pub shown_fits : 6 * legs ≤ length old → Fits sheet o (length old)
    shown_fits h = record { within = C.within; fits = omega (arith, needed) }

    is_viewed : 6 * legs ≤ length old → view_of sheet o (length old) ≡ viewed legs
    unfolding view_of
    is_viewed h =
        rw (C.within.good, C.within.near, sym C.count) (pick_false _ _ (le-ltb (length old) (6 * legs) h))

    pub shown_due : 6 * legs ≤ length old → (out : List Float) → out ≡ numbers_over (view_differences sheet o) old → Due sheet o old (viewed legs) out
    unfolding view_buffer
    shown_due h out e = (sym (is_viewed h), rw (is_viewed h) e)
