-- `layout::put_over` meets its contract. Assumes nothing.
use native.Mathlib.Omega.{arith}
use Rattle.layout.proofs.Freely.{freely_names}
use Rattle.layout.proofs.put_over.Goals as goal

pub returns : goal.returns
returns c =
    freely_names c.args.bytes.now c.args.added.now c.args.out.now _ _ c.args.keep (omega (arith, c.requires)) c.requires.2 c.requires.0 c.requires.1
    c.put_three.ensures c.copy_sixteen.ensures
