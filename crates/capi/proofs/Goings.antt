-- Going on to the next record by steps that are told in numbers. Assumes nothing.
use Rattle.std.specs.Prelude.{Ok}
use Prim.Native.Nat.{ℕ, ◌-◌}
use native.Mathlib.Omega.{arith}
use mathlib.Core.Path.{◌≡◌, refl, sym, ap, ◌∙◌}
use mathlib.Core.List.{List}
use lib.ListN.{length}
use Rattle.format.specs.Stepping.{Stand, StepOutcome, wrote, nothing, ends, refuses, Step, step_of, step_buffer}
use Rattle.format.specs.declared.Stepped.TheVariants.{Nothing}
use Rattle.step.specs.Standing.{Steps}
use Rattle.step.specs.Going.{go_on, next_record, next_buffer}
use Rattle.step.proofs.GoingLaws.{Left, left_first, left_again, go_stops, go_last}
use Rattle.held.specs.Numbers.{held_of, state_stand}
use Rattle.abi.specs.Numbers.{step_numbers}
use Rattle.abi.specs.declared.StepNumbers.{StepNumbers}

-- the loop: what is left, from the numbers here, comes to the same as the whole
pub record GoesOn (s label file old : List ℕ) (n : ℕ) (s' label' new : List ℕ) : Type 0 where
  pub left : Left (held_of s) label file old n (held_of s') label' new

pub goes_first : (s label file old : List ℕ) → GoesOn s label file old (length file) s label old
goes_first s label file old = record { left = left_first (held_of s) label file old }

-- of the answers 2 alone is no record
no_record : (o : StepOutcome) → (step_numbers o).what ≡ 2 → nothing ≡ o
no_record (wrote n kept) e = absurd (omega (arith, e))
no_record nothing e = refl
no_record ends e = absurd (omega (arith, e))
no_record (refuses n p) e = absurd (omega (arith, e))

module _ {s label file old : List ℕ} {n : ℕ} {s' label' now : List ℕ} (G : GoesOn s label file old n s' label' now) {r : StepNumbers} {new : List ℕ}
    (A : r ≡ step_numbers (step_of (state_stand s' label') file (length now)).answer) (C : new ≡ step_buffer (state_stand s' label') file now) where
  module _ {x : Stand} (B : x ≡ (step_of (state_stand s' label') file (length now)).stand) where
    abbrev Whole : Type 0
    Whole =
        (r ≡ step_numbers (next_record (state_stand s label) file (length old)).answer)
        × ((x ≡ (next_record (state_stand s label) file (length old)).stand) × (new ≡ next_buffer (state_stand s label) file old))

    whole : go_on n (state_stand s' label') file (length now) ≡ step_of (state_stand s' label') file (length now) → Whole
    unfolding step_buffer next_buffer
    whole e =
        let q : step_of (state_stand s' label') file (length now) ≡ next_record (state_stand s label) file (length old) = sym e ∙ G.left.same in
        (A ∙ ap (λ (y : Step). step_numbers y.answer) q, (B ∙ ap (λ (y : Step). y.stand) q, C ∙ rw (q, G.left.unwritten)))

    pub goes_stops : (r.what ≡ 2 → ⊥) → Whole
    goes_stops i =
        whole
        (go_stops file (length now) n (state_stand s' label')
        (λ e. i (ap (λ (y : StepNumbers). y.what) A ∙ ap (λ (o : StepOutcome). (step_numbers o).what) e)))

    pub goes_last : n ≡ 0 → Whole
    goes_last e = whole (go_last file (length now) n (state_stand s' label') e)

  pub goes_again : {s'' label'' : List ℕ} → state_stand s'' label'' ≡ (step_of (state_stand s' label') file (length now)).stand
      → (n ≡ 0 → ⊥) → r.what ≡ 2 → GoesOn s label file old (n - 1) s'' label'' new
  goes_again {s''} {label''} B i e =
      let a : nothing ≡ (step_of (state_stand s' label') file (length now)).answer = no_record _ (sym (ap (λ (y : StepNumbers). y.what) A) ∙ e) in
      let S : Steps (held_of s') label' file now (record { answer = Ok Nothing; stand = held_of s'' }) label'' new = record { answer = a; stand = B; buffer = C } in
      record { left = left_again G.left S i refl }
