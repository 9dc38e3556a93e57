-- `read::turn_move` meets its contract. Assumes nothing.
use mathlib.Core.Path.{◌∙◌}
use borrow.Author.Rules.{part_to_end}
use Rattle.read.proofs.turn_move.Goals as goal

pub returns : goal.returns
returns c = c.leads.ensures ∙ simp (c.passed-next.ensures, c.get_point-to.ensures, part_to_end)
