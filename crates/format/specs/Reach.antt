-- How far a survey reaches, document 02, #102, with refusal 21. Assumes nothing.
use Rattle.std.specs.Prelude.{ℕ, ◌-◌, List, [], ◌∷◌, ◌++◌, Bool, ◌||◌, length, take, eqb, ltb, ℤ, pos, negsuc}
use Rattle.std.specs.Int.Signed.{lt_z}
use Rattle.format.specs.Bytes.{pick, same}
use Rattle.format.specs.State.{Record, leg, station, section, error}
use Rattle.format.specs.Refusals.{Result, Verdict, Good, Refusal}
use Rattle.format.specs.Sheet.{sheet_result}
use Rattle.format.specs.declared.Point.{Point}
use Rattle.format.specs.declared.Leg.{Leg}

-- ---- "coordinates i32 centimetres"

-- the i32 of a bit pattern: the number itself below 2 ^ 31, else less 2 ^ 32; `negsuc k` is -(k + 1)
unfoldable pub signed : ℕ → ℤ
signed n = pick (ltb n 0x80000000) (pos n) (negsuc (0xffffffff - n))

abbrev pub axis_x : Point → ℤ
axis_x p = signed p.x

abbrev pub axis_y : Point → ℤ
axis_y p = signed p.y

abbrev pub axis_z : Point → ℤ
axis_z p = signed p.z

-- ---- the legs that take part

-- whether s begins with p
unfoldable pub begins : List ℕ → List ℕ → Bool
begins p s = same (take (length p) s) p

abbrev pub dot : ℕ
dot = 0x2e

-- "every leg whose label is that name, or begins with it and then a dot. The empty name takes all legs"
unfoldable pub takes_part : List ℕ → List ℕ → Bool
takes_part name label = eqb (length name) 0 || (same label name || begins (name ++ (dot ∷ [])) label)

unfoldable pub legs_of : List ℕ → List Record → List Leg
legs_of name [] = []
legs_of name (leg g label ∷ rs) = pick (takes_part name label) (g ∷ legs_of name rs) (legs_of name rs)
legs_of name (station s label ∷ rs) = legs_of name rs
legs_of name (section s label ∷ rs) = legs_of name rs
legs_of name (error t ∷ rs) = legs_of name rs

-- "both ends of every leg"
unfoldable pub ends : List Leg → List Point
ends [] = []
ends (g ∷ gs) = g.from ∷ g.to ∷ ends gs

-- ---- "the least and greatest x, y and z"

abbrev pub lesser : ℤ → ℤ → ℤ
lesser a b = pick (lt_z a b) a b

abbrev pub greater : ℤ → ℤ → ℤ
greater a b = pick (lt_z a b) b a

-- the lesser, or the greater, of a number and a coordinate of one place after another
unfoldable pub along : (ℤ → ℤ → ℤ) → (Point → ℤ) → ℤ → List Point → ℤ
along f axis a [] = a
along f axis a (p ∷ ps) = along f axis (f a (axis p)) ps

-- what no i32 passes: the least begins from above and the greatest from below, so that the first place makes both
abbrev pub highest : ℤ
highest = pos 0x7fffffff

abbrev pub lowest : ℤ
lowest = negsuc 0x7fffffff

-- two rows of three: the least x, y and z, and the greatest
unfoldable pub bounds_of : List Point → List (List ℤ)
bounds_of ps =
    (along lesser axis_x highest ps ∷ along lesser axis_y highest ps ∷ along lesser axis_z highest ps ∷ [])
    ∷ (along greater axis_x lowest ps ∷ along greater axis_y lowest ps ∷ along greater axis_z lowest ps ∷ [])
    ∷ []

-- ---- the answer

-- the bounds and "how many legs took part"; or a refusal's number and place
pub data ReachOutcome : Type 0 where
  spans : List (List ℤ) → ℕ → ReachOutcome
  unspanned : ℕ → ℕ → ReachOutcome

-- "21, place 0, when no leg takes part"
abbrev pub legs_reach : List Leg → ReachOutcome
legs_reach gs = pick (eqb (length gs) 0) (unspanned 21 0) (spans (bounds_of (ends gs)) (length gs))

-- "12 as for writing, then 21"
abbrev pub reach_from : Verdict → List Leg → ReachOutcome
reach_from (Refusal n p) gs = unspanned n p
reach_from Good gs = legs_reach gs

abbrev pub result_reach : List ℕ → Result → ReachOutcome
result_reach name x = reach_from x.verdict (legs_of name x.records)

unfoldable pub reach_of : List ℕ → List ℕ → ReachOutcome
reach_of sheet name = result_reach name (sheet_result sheet)
