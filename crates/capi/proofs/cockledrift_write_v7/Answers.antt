-- `capi::cockledrift_write_v7` meets its contract. What the writer promised is found by the search and not by the writer's name. Assumes nothing.
use Rattle.std.proofs.Common.{rules}
use Rattle.capi.proofs.Tells.{tells}
use Rattle.capi.proofs.cockledrift_write_v7.Goals as goal

pub returns-clause-answer : goal.returns-clause-answer
returns-clause-answer c = search (rules, tells)
