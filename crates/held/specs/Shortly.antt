-- One step over one of the commonest items, from the stand that a reader's numbers say. Assumes nothing.
use Rattle.std.specs.Prelude.{ℕ, ◌≡◌, List, length, Option, Some, None}
use Rattle.format.specs.Stepping.{StepOutcome, wrote, nothing, step_of, step_buffer}
use Rattle.held.specs.Numbers.{state_stand}
use Rattle.held.specs.declared.Brief.{Brief}
use Rattle.held.specs.declared.Brief.TheVariants.{Nothing, Record}

-- an answer, the numbers, the label's buffer and the record's after it are one step from a stand
pub record StepsOn (o : StepOutcome) (s label file old s' label' new : List ℕ) : Type 0 where
  pub answer : o ≡ (step_of (state_stand s label) file (length old)).answer
  pub stand : state_stand s' label' ≡ (step_of (state_stand s label) file (length old)).stand
  pub buffer : new ≡ step_buffer (state_stand s label) file old

-- `short_step`: such a step; or nothing was touched
abbrev pub Briefly : Option Brief → List ℕ → List ℕ → List ℕ → List ℕ → List ℕ → List ℕ → List ℕ → Type 0
Briefly None s label file old s' label' new = (s' ≡ s) × (label' ≡ label) × (new ≡ old)
Briefly (Some Nothing) s label file old s' label' new = StepsOn nothing s label file old s' label' new
Briefly (Some (Record n kept)) s label file old s' label' new = StepsOn (wrote n kept) s label file old s' label' new
