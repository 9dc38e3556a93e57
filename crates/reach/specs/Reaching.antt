-- The bounds as the code holds them, two rows of three, and what is left to take in. Assumes nothing.
use Rattle.std.specs.Prelude.{ℕ, ◌+◌, ◌-◌, List, [], ◌∷◌, Bool, ◌&&◌, length, get_or, take, drop, eqb, ℤ, pos, Option, Some, None}
use Rattle.format.specs.Bytes.{pick, be32}
use Rattle.format.specs.Items.{point_of}
use Rattle.format.specs.Sheet.{Entry, flawed, entry}
use Rattle.format.specs.Refusals.{Result, Verdict, Good, Refusal}
use Rattle.format.specs.Reach.{axis_x, axis_y, axis_z, lesser, greater, along, takes_part, legs_of, ends, ReachOutcome, spans, unspanned}
use Rattle.format.specs.declared.Point.{Point}
use Rattle.format.specs.declared.Leg.{Leg}

-- ---- bounds with places taken in

unfoldable pub row_from : (ℤ → ℤ → ℤ) → List ℤ → List Point → List ℤ
row_from f a ps = along f axis_x (get_or a 0 (pos 0)) ps ∷ along f axis_y (get_or a 1 (pos 0)) ps ∷ along f axis_z (get_or a 2 (pos 0)) ps ∷ []

unfoldable pub bounds_from : List (List ℤ) → List Point → List (List ℤ)
bounds_from b ps = row_from lesser (get_or b 0 []) ps ∷ row_from greater (get_or b 1 []) ps ∷ []

-- ---- the record at the front of s

-- its size, where it is well-formed
abbrev pub size_of : Entry → Option ℕ
size_of flawed = None
size_of (entry n r) = Some n

-- both ends of a leg's record
abbrev pub ends_at : List ℕ → List Point
ends_at s = point_of be32 (drop 10 s) ∷ point_of be32 (drop 22 s) ∷ []

-- whether a record of n bytes is a leg that takes part
abbrev pub takes_at : List ℕ → ℕ → List ℕ → Bool
takes_at name n s = eqb (get_or s 2 0) 1 && takes_part name (take (n - 34) (drop 34 s))

-- ---- the answer, where so many legs have been taken into the bounds and others are left

abbrev pub legs_reach_from : ℕ → List (List ℤ) → List Leg → ReachOutcome
legs_reach_from n b gs = pick (eqb (n + length gs) 0) (unspanned 21 0) (spans (bounds_from b (ends gs)) (n + length gs))

abbrev pub reach_left : ℕ → List (List ℤ) → Verdict → List Leg → ReachOutcome
reach_left n b (Refusal k p) gs = unspanned k p
reach_left n b Good gs = legs_reach_from n b gs

abbrev pub result_left : List ℕ → ℕ → List (List ℤ) → Result → ReachOutcome
result_left name n b x = reach_left n b x.verdict (legs_of name x.records)
