-- How far a survey reaches, in the numbers of the interface for C. Assumes nothing.
use Rattle.std.specs.Prelude.{ℕ, List, [], get_or, ℤ, pos}
use Rattle.format.specs.Reach.{ReachOutcome, spans, unspanned}
use Rattle.capi.specs.declared.ReachNumbers.{ReachNumbers}

-- a row of the bounds, 0 the least and 1 the greatest, and a column: x, y or z
abbrev cell : List (List ℤ) → ℕ → ℕ → ℤ
cell b row column = get_or (get_or b row []) column (pos 0)

-- number 0 is success, with how many legs took part and the six bounds; any other is the refusal's number, with its place
abbrev pub reach_numbers : ReachOutcome → ReachNumbers
reach_numbers (spans b legs) =
    record {
      number = 0;
      place = 0;
      legs = legs;
      least_x = cell b 0 0;
      least_y = cell b 0 1;
      least_z = cell b 0 2;
      greatest_x = cell b 1 0;
      greatest_y = cell b 1 1;
      greatest_z = cell b 1 2;
    }
reach_numbers (unspanned number place) =
    record {
      number = number;
      place = place;
      legs = 0;
      least_x = pos 0;
      least_y = pos 0;
      least_z = pos 0;
      greatest_x = pos 0;
      greatest_y = pos 0;
      greatest_z = pos 0;
    }
