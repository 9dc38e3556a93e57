-- Legs as the code finds them in a sheet, and what is known of a sheet when its numbers are written. Assumes nothing.
use Rattle.format.specs.Refusals.{Good}
use Rattle.std.specs.Prelude.{ℕ, ◌≤◌, ◌≡◌, List, [], ◌∷◌, ◌++◌, Bool, ◌&&◌, length, get_or, drop, eqb, ℤ}
use Rattle.format.specs.Bytes.{be32}
use Rattle.format.specs.Items.{point_of}
use Rattle.format.specs.Sheet.{sheet_result}
use Rattle.format.specs.Reach.{spans, reach_of}
use Rattle.format.specs.Viewer.{place_of, less_origin, all_legs, too_far, far_verdict, view_differences}
use Rattle.format.specs.Answers.{row_of}
use Rattle.format.specs.declared.Corner.{Corner}
use Rattle.format.specs.declared.Origin.{Origin}

-- the six differences of the leg's record s
abbrev pub six_at : Origin → List ℕ → List ℤ
six_at o s = less_origin o (place_of (point_of be32 (drop 10 s))) ++ less_origin o (place_of (point_of be32 (drop 22 s)))

-- whether the record s is a leg that is too far
abbrev pub far_at : Origin → List ℕ → Bool
far_at o s = eqb (get_or s 2 0) 1 && too_far (six_at o s)

-- the box of all legs of a good sheet
pub record Boxed (sheet : List ℕ) (least greatest : Corner) : Type 0 where
  pub legs : ℕ
  pub same : reach_of sheet [] ≡ spans (row_of least ∷ row_of greatest ∷ []) legs

-- a good sheet, none of whose legs is too far
pub record Near (sheet : List ℕ) (o : Origin) : Type 0 where
  pub good : (sheet_result sheet).verdict ≡ Good
  pub near : far_verdict o 0 (sheet_result sheet).records ≡ Good

-- the same, and how many legs it has
pub record Counted (sheet : List ℕ) (o : Origin) (legs : ℕ) : Type 0 where
  pub within : Near sheet o
  pub count : legs ≡ length (all_legs (sheet_result sheet).records)

-- the same, and room for its numbers
pub record Fits (sheet : List ℕ) (o : Origin) (room : ℕ) : Type 0 where
  pub within : Near sheet o
  pub fits : length (view_differences sheet o) ≤ room
