-- #102, worked: which labels take part, the bounds of a few legs, and the order of the refusals. One table under one statement.
-- Assumes nothing.
use Prim.Native.Nat.{ℕ}
use mathlib.Core.Path.{◌≡◌, refl}
use mathlib.Core.List.{List, [], ◌∷◌, ◌++◌}
use lib.IntN.{pos, negsuc}
use Rattle.format.specs.Bytes.{pick, be16, be32, to_be16, to_be32, same}
use Rattle.format.specs.Header.{line_end, ends_in_return}
use Rattle.format.specs.State.{Record, leg, station}
use Rattle.format.specs.Iterate.{iter, iter_up}
use Rattle.format.specs.Sheet.{sheet_version, undated_version, layout, layout_all, header_layout, sheet_of, good_date, date_from, leg_entry, station_entry, section_entry, undated_section_entry, body_entry, framed, entry_of, records_step, records_from, records_of, good_text, good_header, good_front, front_header, behind_front, version_result, version_of, sheet_result}
use Rattle.format.specs.Reach.{signed, begins, takes_part, legs_of, ends, along, bounds_of, ReachOutcome, spans, unspanned, reach_of}
use Rattle.format.specs.declared.Point.{Point}
use Rattle.format.specs.declared.Dated.TheVariants.{Undated}
use Rattle.format.proofs.Cases.{origin}

-- a row: what the definitions give, and what is due
record Row : Type 0 where
  pub given : ReachOutcome
  pub due : ReachOutcome

abbrev givens : List Row → List ReachOutcome
givens [] = []
givens (r ∷ rs) = r.given ∷ givens rs

abbrev dues : List Row → List ReachOutcome
dues [] = []
dues (r ∷ rs) = r.due ∷ dues rs

-- a leg between two places, and one along the origin
abbrev pub between : Point → Point → List ℕ → Record
between p q label = leg (record { flags = 0; style = 5; date = Undated; from = p; to = q }) label

abbrev along_origin : List ℕ → Record
along_origin = between origin origin

abbrev pub point : ℕ → ℕ → ℕ → Point
point x y z = record { x = x; y = y; z = z }

-- a sheet with the title `A` and the time line `@0`
abbrev pub sheet_in : ℕ → List Record → List ℕ
sheet_in version rs = sheet_of version (record { extended = 0; title = 65 ∷ []; time = 64 ∷ 48 ∷ [] }) rs

abbrev reaching : List Record → List ℕ → ReachOutcome
reaching rs name = reach_of (sheet_in sheet_version rs) name

-- so many legs along the origin
abbrev at_origin : ℕ → ReachOutcome
at_origin n = spans ((pos 0 ∷ pos 0 ∷ pos 0 ∷ []) ∷ (pos 0 ∷ pos 0 ∷ pos 0 ∷ []) ∷ []) n

-- the labels `a`, `a.b`, `ab`, `a.`, `a..b` and the empty one
abbrev labels : List Record
labels =
    along_origin (97 ∷ []) ∷ along_origin (97 ∷ 46 ∷ 98 ∷ []) ∷ along_origin (97 ∷ 98 ∷ []) ∷ along_origin (97 ∷ 46 ∷ [])
    ∷ along_origin (97 ∷ 46 ∷ 46 ∷ 98 ∷ []) ∷ along_origin [] ∷ []

-- from the lowest x to the highest, and between -1 and 1
abbrev far : Record
far = between (point 0x80000000 0xffffffff 2) (point 0x7fffffff 1 0xfffffffe) (97 ∷ [])

abbrev table : List Row
table =
    -- "whose label is that name, or begins with it and then a dot"
    record { given = reaching labels (97 ∷ []); due = at_origin 4 }
    ∷ record { given = reaching labels (97 ∷ 98 ∷ []); due = at_origin 1 }
    -- a final dot is a part of the name
    ∷ record { given = reaching labels (97 ∷ 46 ∷ []); due = at_origin 2 }
    -- "The empty name takes all legs"
    ∷ record { given = reaching labels []; due = at_origin 6 }
    -- "over both ends of every leg"; coordinates are i32
    ∷ record { given = reaching (far ∷ []) (97 ∷ []); due = spans ((negsuc 0x7fffffff ∷ negsuc 0 ∷ negsuc 1 ∷ []) ∷ (pos 0x7fffffff ∷ pos 1 ∷ pos 2 ∷ []) ∷ []) 1 }
    ∷ record { given = reaching (between (point 5 6 7) (point 5 6 7) [] ∷ []) []; due = spans ((pos 5 ∷ pos 6 ∷ pos 7 ∷ []) ∷ (pos 5 ∷ pos 6 ∷ pos 7 ∷ []) ∷ []) 1 }
    -- legs alone; both versions of a sheet
    ∷ record { given = reaching (station (record { flags = 0; place = point 9 9 9 }) (97 ∷ []) ∷ along_origin (97 ∷ []) ∷ []) (97 ∷ []); due = at_origin 1 }
    ∷ record { given = reach_of (sheet_in undated_version labels) (97 ∷ []); due = at_origin 4 }
    -- "21, place 0, when no leg takes part"; "the name may be any length"
    ∷ record { given = reaching labels (98 ∷ []); due = unspanned 21 0 }
    ∷ record { given = reaching (along_origin (97 ∷ []) ∷ []) (97 ∷ 97 ∷ 97 ∷ []); due = unspanned 21 0 }
    ∷ record { given = reaching [] []; due = unspanned 21 0 }
    -- "12 as for writing, then 21"
    ∷ record { given = reach_of [] []; due = unspanned 12 0 }
    ∷ record { given = reach_of (sheet_in sheet_version (far ∷ far ∷ []) ++ (0 ∷ [])) (97 ∷ []); due = unspanned 12 2 }
    ∷ record { given = reach_of (sheet_in sheet_version (far ∷ []) ++ (0 ∷ [])) (98 ∷ []); due = unspanned 12 1 }
    ∷ []

pub reach_cases : givens table ≡ dues table
unfolding pick be16 be32 to_be16 to_be32 same line_end ends_in_return iter iter_up layout layout_all header_layout sheet_of good_date date_from leg_entry station_entry section_entry undated_section_entry body_entry framed entry_of records_step records_from records_of good_text good_header good_front front_header behind_front version_result version_of sheet_result signed begins takes_part legs_of ends along bounds_of reach_of
reach_cases = refl
