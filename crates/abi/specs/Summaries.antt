-- The summary of a sheet's entrances, in the numbers of the interface for C. Assumes nothing.
use Rattle.std.specs.Prelude.{Some, None}
use Rattle.format.specs.Summary.{SummaryOutcome, takes, untaken, EntrancesOutcome, holds, unheld}
use Rattle.abi.specs.declared.SummaryNumbers.{SummaryNumbers}
use Rattle.abi.specs.declared.EntranceNumbers.{EntranceNumbers}

-- number 0 is success, with the words that the summary takes; any other is the refusal's number, with its place
abbrev pub summary_numbers : SummaryOutcome → SummaryNumbers
summary_numbers (takes words) = record { number = 0; place = 0; words = words }
summary_numbers (untaken number place) = record { number = number; place = place; words = 0 }

-- the same with the count, and found 1 with the next entrance's record, or 0 where there is none
abbrev pub entrance_numbers : EntrancesOutcome → EntranceNumbers
entrance_numbers (holds count (Some record')) = record { number = 0; place = 0; count = count; found = 1; next = record' }
entrance_numbers (holds count None) = record { number = 0; place = 0; count = count; found = 0; next = 0 }
entrance_numbers (unheld number place) = record { number = number; place = place; count = 0; found = 0; next = 0 }
