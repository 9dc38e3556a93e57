-- `table::node_for` meets its contract. Assumes nothing.
use mathlib.Core.Path.{◌∙◌}
use Rattle.table.proofs.node_for.Goals as goal

pub returns : goal.returns
returns c =
    record {
      bytes = c.node.ensures ∙ rw (c.front-f.ensures, c.four.ensures.0, c.four-2.ensures.0, c.four-3.ensures.0, c.four-4.ensures.0);
      hash_fits = c.four.ensures.1;
      x_fits = c.four-2.ensures.1;
      y_fits = c.four-3.ensures.1;
      z_fits = c.four-4.ensures.1;
    }
