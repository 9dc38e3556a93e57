-- One step over one of the commonest items. Assumes nothing.
use Rattle.std.specs.Prelude.{ℕ, ◌+◌, ◌≤◌, ◌≡◌, List, Option, Some, None, Ok}
use Rattle.format.specs.Label.{label_limit}
use Rattle.format.specs.declared.Setting.{Setting}
use Rattle.format.specs.declared.Stepped.{Stepped}
use Rattle.format.specs.declared.Stepped.TheVariants.{Record as RecordStep, Nothing}
use Rattle.item.specs.Commonest.{moved_to}
use Rattle.laying.specs.declared.Quick.{Quick}
use Rattle.laying.specs.declared.Quick.TheVariants.{Leg, Made, Trim, Move}
use Rattle.step.specs.Standing.{slice_limit, behind_item, Steps}
use Rattle.step.specs.declared.Phase.TheVariants.{Going}
use Rattle.step.specs.declared.Stand.{Stand as Held}

-- a step over an item of so many bytes, after which the label has m: its answer, and the reader then stands behind it
pub record Took (h : Held) (label file old : List ℕ) (size m : ℕ) (after : Setting) (a : Stepped) (label' new : List ℕ) : Type 0 where
  pub going : h.phase ≡ Going
  pub within : h.place + size ≤ slice_limit
  pub short : m ≤ label_limit
  pub steps : Steps h label file old (record { answer = Ok a; stand = behind_item h size m after }) label' new

-- `short_at`: such a step; or another item, and nothing was touched
abbrev pub Shortly : Option Quick → Held → List ℕ → List ℕ → List ℕ → List ℕ → List ℕ → Type 0
Shortly None h label file old label' new = (label' ≡ label) × (new ≡ old)
Shortly (Some (Leg size m to kept)) h label file old label' new = Took h label file old size m (moved_to h.setting to) (RecordStep (34 + m) kept) label' new
Shortly (Some (Made size m bytes kept)) h label file old label' new = Took h label file old size m h.setting (RecordStep bytes kept) label' new
Shortly (Some (Trim m)) h label file old label' new = Took h label file old 1 m h.setting Nothing label' new
Shortly (Some (Move m to)) h label file old label' new = Took h label file old 13 m (moved_to h.setting to) Nothing label' new
