-- An answer in numbers is that of the outcome. Assumes nothing.
use Rattle.std.specs.Prelude.{Result}
use mathlib.Core.Path.{◌≡◌, ap, ◌∙◌}
use Rattle.format.specs.Answers.{answer_of}
use Rattle.format.specs.Refusals.{Outcome}
use Rattle.format.specs.declared.Done.{Done}
use Rattle.format.specs.declared.Refusal.{Refusal}
use Rattle.abi.specs.Numbers.{outcome_numbers, answer_numbers}
use Rattle.abi.specs.declared.AnswerNumbers.{AnswerNumbers}

pub tells : (a : Result Done Refusal) {o : Outcome} {r : AnswerNumbers} → r ≡ answer_numbers a → answer_of a ≡ o → r ≡ outcome_numbers o
tells a e f = e ∙ ap outcome_numbers f
