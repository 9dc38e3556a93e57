-- Legs for the viewer, document 02, #104, with refusal 20. Assumes nothing.
use Rattle.std.specs.Prelude.{ℕ, suc, ◌+◌, ◌*◌, ◌<◌, List, [], ◌∷◌, ◌++◌, map, Bool, true, false, ◌||◌, length, get_or, drop, ltb, ℤ, pos, negsuc, ◌-ℤ◌, nat_abs, Float}
use Rattle.std.specs.Float.{nan, binary32}
use Rattle.std.specs.Float.Ieee.{of_int}
use Rattle.std.specs.Float.Ieee.Exact.{HasValue}
use Rattle.format.specs.Bytes.{pick}
use Rattle.format.specs.State.{Record, leg, station, section, error}
use Rattle.format.specs.Refusals.{Result, or_else, Verdict, Good, Refusal}
use Rattle.format.specs.Sheet.{sheet_result}
use Rattle.format.specs.Reach.{axis_x, axis_y, axis_z, legs_of}
use Rattle.format.specs.declared.Point.{Point}
use Rattle.format.specs.declared.Corner.{Corner}
use Rattle.format.specs.declared.Origin.{Origin}
use Rattle.format.specs.declared.Leg.{Leg}

-- ---- the numbers of a leg

-- a place as three numbers
abbrev pub place_of : Point → Corner
place_of p = record { x = axis_x p; y = axis_y p; z = axis_z p }

-- "x y z .. in centimetres, less an origin that the caller gives as three i32"
abbrev pub less_origin : Origin → Corner → List ℤ
less_origin o c = (c.x -ℤ o.x) ∷ (c.y -ℤ o.y) ∷ (c.z -ℤ o.z) ∷ []

-- "six f32 numbers a leg: from x y z, then to x y z"
abbrev pub six_of : Origin → Leg → List ℤ
six_of o g = less_origin o (place_of g.from) ++ less_origin o (place_of g.to)

abbrev pub numbers_each : ℕ
numbers_each = 6

-- "Legs come in sheet order"
unfoldable pub differences : Origin → List Leg → List ℤ
differences o [] = []
differences o (g ∷ gs) = six_of o g ++ differences o gs

-- every leg of the records: that is what the empty name takes (#102)
abbrev pub all_legs : List Record → List Leg
all_legs rs = legs_of [] rs

-- ---- refusal 20

-- "Each difference of magnitude at most 16,777,216"
abbrev pub farthest : ℕ
farthest = 16777216

-- "Any larger difference"
unfoldable pub too_far : List ℤ → Bool
too_far [] = false
too_far (d ∷ ds) = ltb farthest (nat_abs d) || too_far ds

-- "20 with the record number of the first leg too far"; the first of the records has the number n
unfoldable pub far_verdict : Origin → ℕ → List Record → Verdict
far_verdict o n [] = Good
far_verdict o n (leg g label ∷ rs) = pick (too_far (six_of o g)) (Refusal 20 n) (far_verdict o (n + 1) rs)
far_verdict o n (station s label ∷ rs) = far_verdict o (n + 1) rs
far_verdict o n (section s label ∷ rs) = far_verdict o (n + 1) rs
far_verdict o n (error t ∷ rs) = far_verdict o (n + 1) rs

-- ---- the answer

-- how many legs came; or a refusal's number and place
pub data ViewOutcome : Type 0 where
  viewed : ℕ → ViewOutcome
  unviewed : ℕ → ℕ → ViewOutcome

-- "the answer is their count"; "then 11 with the count of numbers needed"
abbrev pub view_from : Verdict → ℕ → ℕ → ViewOutcome
view_from (Refusal n p) legs room = unviewed n p
view_from Good legs room = pick (ltb room (numbers_each * legs)) (unviewed 11 (numbers_each * legs)) (viewed legs)

-- "12, then 20 .., then 11"
abbrev pub result_view : Origin → Result → ℕ → ViewOutcome
result_view o x room = view_from (or_else x.verdict (far_verdict o 0 x.records)) (length (all_legs x.records)) room

unfoldable pub view_of : List ℕ → Origin → ℕ → ViewOutcome
view_of sheet o room = result_view o (sheet_result sheet) room

-- ---- the numbers, and what the lent buffer then holds

-- the f32 of a whole number
abbrev pub number_of : ℤ → Float
number_of z = of_int binary32 z

-- "the numbers past the last leg's stay"
unfoldable pub numbers_over : List ℤ → List Float → List Float
numbers_over new old = map number_of new ++ drop (length new) old

-- "the buffer is untouched by each" refusal
abbrev pub viewed_buffer : ViewOutcome → List ℤ → List Float → List Float
viewed_buffer (viewed n) new old = numbers_over new old
viewed_buffer (unviewed n p) new old = old

-- the differences of all legs of a sheet
unfoldable pub view_differences : List ℕ → Origin → List ℤ
view_differences sheet o = differences o (all_legs (sheet_result sheet).records)

unfoldable pub view_buffer : List ℕ → Origin → List Float → List Float
view_buffer sheet o old = viewed_buffer (view_of sheet o (length old)) (view_differences sheet o) old

-- "must come out as exactly that number, zero as plus zero": x is finite, of z's magnitude and of z's sign, which is plus where z is 0
abbrev pub Exactly : Float → ℤ → Type 0
Exactly x (pos n) = HasValue x false n 1
Exactly x (negsuc n) = HasValue x true (suc n) 1

-- each number that came, whichever its place, is exactly the difference of that place
abbrev pub Exact : ViewOutcome → List ℤ → List Float → Type 0
Exact (viewed n) new out = (k : ℕ) → k < length new → Exactly (get_or out k nan) (get_or new k (pos 0))
Exact (unviewed n p) new out = Unit

-- the same of all legs of a sheet
abbrev pub ViewExact : List ℕ → Origin → ℕ → List Float → Type 0
ViewExact sheet o room out = Exact (view_of sheet o room) (view_differences sheet o) out
