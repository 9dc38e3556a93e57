-- Outcomes in the numbers of the interface for C. Assumes nothing.
use Rattle.std.specs.Prelude.{Result}
use Rattle.format.specs.Refusals.{Outcome, accepted, refused}
use Rattle.format.specs.Answers.{answer_of, OpenOutcome, begun, unopened}
use Rattle.format.specs.Stepping.{StepOutcome, wrote, nothing, ends, refuses}
use Rattle.format.specs.declared.Done.{Done}
use Rattle.format.specs.declared.Refusal.{Refusal}
use Rattle.abi.specs.declared.AnswerNumbers.{AnswerNumbers}
use Rattle.abi.specs.declared.OpenNumbers.{OpenNumbers}
use Rattle.abi.specs.declared.StepNumbers.{StepNumbers}

-- number 0 is success, with bytes, records and version; any other is the refusal's number, with its place
abbrev pub outcome_numbers : Outcome → AnswerNumbers
outcome_numbers (accepted bytes records version) = record { number = 0; bytes = bytes; records = records; version = version }
outcome_numbers (refused number place) = record { number = number; bytes = place; records = 0; version = 0 }

abbrev pub answer_numbers : Result Done Refusal → AnswerNumbers
answer_numbers a = outcome_numbers (answer_of a)

-- number 0 is success, with the version and the first item's place; any other is the refusal's number, with its place
abbrev pub open_numbers : OpenOutcome → OpenNumbers
open_numbers (begun version place) = record { number = 0; place = place; version = version }
open_numbers (unopened number place) = record { number = number; place = place; version = 0 }

-- 1 a record, with its bytes and how many bytes of the label were kept; 2 no record; 3 the end; 4 a refusal, with its number and place
abbrev pub step_numbers : StepOutcome → StepNumbers
step_numbers (wrote bytes kept) = record { what = 1; bytes = bytes; kept = kept; number = 0 }
step_numbers nothing = record { what = 2; bytes = 0; kept = 0; number = 0 }
step_numbers ends = record { what = 3; bytes = 0; kept = 0; number = 0 }
step_numbers (refuses number place) = record { what = 4; bytes = place; kept = 0; number = number }
