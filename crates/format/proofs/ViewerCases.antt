-- #104, worked: the numbers of a few legs, how far is too far, and the order of the refusals. One table under one statement.
-- Assumes nothing.
use Prim.Native.Nat.{ℕ}
use mathlib.Core.Path.{◌≡◌, refl}
use mathlib.Core.List.{List, [], ◌∷◌, ◌++◌}
use lib.IntN.{ℤ, pos, negsuc}
use Rattle.format.specs.Bytes.{pick, be16, be32, to_be16, to_be32, same}
use Rattle.format.specs.Header.{line_end, ends_in_return}
use Rattle.format.specs.State.{Record, station}
use Rattle.format.specs.Iterate.{iter, iter_up}
use Rattle.format.specs.Sheet.{sheet_version, undated_version, layout, layout_all, header_layout, sheet_of, good_date, date_from, leg_entry, station_entry, section_entry, undated_section_entry, body_entry, framed, entry_of, records_step, records_from, records_of, good_text, good_header, good_front, front_header, behind_front, version_result, version_of, sheet_result}
use Rattle.format.specs.Reach.{signed, begins, takes_part, legs_of}
use Rattle.format.specs.Viewer.{differences, too_far, far_verdict, ViewOutcome, viewed, unviewed, view_of, view_differences}
use Rattle.format.specs.declared.Origin.{Origin}
use Rattle.format.proofs.Cases.{origin}
use Rattle.format.proofs.ReachCases.{between, point, sheet_in}

-- the answer, and the differences of all legs
record View : Type 0 where
  pub answer : ViewOutcome
  pub numbers : List ℤ

-- a row: what the definitions give, and what is due
record Row : Type 0 where
  pub given : View
  pub due : View

abbrev givens : List Row → List View
givens [] = []
givens (r ∷ rs) = r.given ∷ givens rs

abbrev dues : List Row → List View
dues [] = []
dues (r ∷ rs) = r.due ∷ dues rs

abbrev from_origin : Origin
from_origin = record { x = pos 0; y = pos 0; z = pos 0 }

-- an origin at the lowest x
abbrev from_lowest : Origin
from_lowest = record { x = negsuc 0x7fffffff; y = negsuc 0; z = pos 3 }

abbrev shows : ViewOutcome → List ℤ → View
shows answer numbers = record { answer = answer; numbers = numbers }

abbrev seen : List ℕ → Origin → ℕ → View
seen sheet o room = shows (view_of sheet o room) (view_differences sheet o)

abbrev viewing : List Record → Origin → ℕ → View
viewing rs = seen (sheet_in sheet_version rs)

-- a leg from 1 2 3 to -1 -2 -3, one from the lowest x, and a station
abbrev short : Record
short = between (point 1 2 3) (point 0xffffffff 0xfffffffe 0xfffffffd) []

abbrev lowest_leg : Record
lowest_leg = between (point 0x80000000 0 0) (point 0x80000001 1 3) (97 ∷ [])

abbrev stop_at : Record
stop_at = station (record { flags = 0; place = point 9 9 9 }) (97 ∷ [])

-- a leg to an x, along the origin
abbrev to_x : ℕ → Record
to_x x = between origin (point x 0 0) []

abbrev to_x_numbers : ℤ → List ℤ
to_x_numbers d = pos 0 ∷ pos 0 ∷ pos 0 ∷ d ∷ pos 0 ∷ pos 0 ∷ []

-- two legs too far, and their numbers
abbrev far_legs : List Record
far_legs = to_x 0x7fffffff ∷ to_x 0x7fffffff ∷ []

abbrev far_numbers : List ℤ
far_numbers = to_x_numbers (pos 0x7fffffff) ++ to_x_numbers (pos 0x7fffffff)

abbrev short_numbers : List ℤ
short_numbers = pos 1 ∷ pos 2 ∷ pos 3 ∷ negsuc 0 ∷ negsuc 1 ∷ negsuc 2 ∷ []

abbrev table : List Row
table =
    -- "from x y z, then to x y z"; "Legs come in sheet order, the answer is their count"
    record { given = viewing (stop_at ∷ short ∷ stop_at ∷ to_x 7 ∷ []) from_origin 12; due = shows (viewed 2) (short_numbers ++ to_x_numbers (pos 7)) }
    -- "less an origin"
    ∷ record { given = viewing (lowest_leg ∷ []) from_lowest 6; due = shows (viewed 1) (pos 0 ∷ pos 1 ∷ negsuc 2 ∷ pos 1 ∷ pos 2 ∷ pos 0 ∷ []) }
    -- "Each difference of magnitude at most 16,777,216"; "Any larger difference refuses the call"
    ∷ record { given = viewing (to_x 0x01000000 ∷ []) from_origin 6; due = shows (viewed 1) (to_x_numbers (pos 16777216)) }
    ∷ record { given = viewing (to_x 0xff000000 ∷ []) from_origin 6; due = shows (viewed 1) (to_x_numbers (negsuc 16777215)) }
    ∷ record { given = viewing (to_x 0x01000001 ∷ []) from_origin 6; due = shows (unviewed 20 0) (to_x_numbers (pos 16777217)) }
    ∷ record { given = viewing (to_x 0xfeffffff ∷ []) from_origin 6; due = shows (unviewed 20 0) (to_x_numbers (negsuc 16777216)) }
    -- "the record number of the first leg too far", before 11
    ∷ record { given = viewing (stop_at ∷ to_x 1 ∷ far_legs) from_origin 0; due = shows (unviewed 20 2) (to_x_numbers (pos 1) ++ far_numbers) }
    -- "then 11 with the count of numbers needed"
    ∷ record { given = viewing (short ∷ short ∷ []) from_origin 11; due = shows (unviewed 11 12) (short_numbers ++ short_numbers) }
    -- no leg; both versions of a sheet
    ∷ record { given = viewing (stop_at ∷ []) from_origin 0; due = shows (viewed 0) [] }
    ∷ record { given = seen (sheet_in undated_version (short ∷ [])) from_origin 6; due = shows (viewed 1) short_numbers }
    -- "12, then 20"
    ∷ record { given = seen [] from_origin 6; due = shows (unviewed 12 0) [] }
    ∷ record { given = seen (sheet_in sheet_version far_legs ++ (0 ∷ [])) from_origin 0; due = shows (unviewed 12 2) far_numbers }
    ∷ []

pub viewer_cases : givens table ≡ dues table
unfolding pick be16 be32 to_be16 to_be32 same line_end ends_in_return iter iter_up layout layout_all header_layout sheet_of good_date date_from leg_entry station_entry section_entry undated_section_entry body_entry framed entry_of records_step records_from records_of good_text good_header good_front front_header behind_front version_result version_of sheet_result signed begins takes_part legs_of differences too_far far_verdict view_of view_differences
viewer_cases = refl
