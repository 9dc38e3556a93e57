-- `edit::put_changed` meets its contract. Assumes nothing.
use native.Mathlib.Omega.{arith}
use Rattle.edit.proofs.Whole.{behind_ready}
use Rattle.edit.proofs.put_changed.Goals as goal

pub put_behind-requires : goal.put_behind-requires
put_behind-requires c =
    behind_ready c.requires.at
    (λ i. omega (arith, c.type_inv.file i))
    c.args.new.now c.put_new-replaced.ensures
    (omega (arith, c.well_formed))

pub returns : goal.returns
returns c =
    record {
      pen = c.put_new-replaced.result;
      label = _;
      between = _;
      puts = c.put_new-replaced.ensures;
      went = c.put_behind.ensures;
    }
