-- Legs for the viewer, in the numbers of the interface for C. Assumes nothing.
use Rattle.std.specs.Prelude.{ℤ}
use Rattle.format.specs.Viewer.{ViewOutcome, viewed, unviewed}
use Rattle.format.specs.declared.Origin.{Origin}
use Rattle.abi.specs.declared.ViewNumbers.{ViewNumbers}

-- "an origin that the caller gives as three i32"
abbrev pub origin_of : ℤ → ℤ → ℤ → Origin
origin_of x y z = record { x = x; y = y; z = z }

-- number 0 is success, with how many legs came; any other is the refusal's number, with its place
abbrev pub view_numbers : ViewOutcome → ViewNumbers
view_numbers (viewed legs) = record { number = 0; place = 0; legs = legs }
view_numbers (unviewed number place) = record { number = number; place = place; legs = 0 }
