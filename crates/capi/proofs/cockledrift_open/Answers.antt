-- `capi::cockledrift_open` meets its contract. Assumes nothing.
use mathlib.Core.Path.{ap, ◌∙◌}
use borrow.Author.Rules.{rules}
use Rattle.abi.specs.Numbers.{open_numbers}
use Rattle.capi.proofs.cockledrift_open.Goals as goal

pub returns : goal.returns
returns c = record { answer = c.tell_open.ensures ∙ ap open_numbers c.opened-o.ensures; stand = rw c.numbers_of-numbers.ensures (search rules) }
