-- `measure::error` meets its contract. Assumes nothing.
use lib.ListN.{drop}
use Rattle.format.specs.Bytes.{le32}
use Rattle.format.specs.Items.{Error as error_of, traverse_of, error_item}
use Rattle.measure.specs.declared.Measured.TheVariants.{Made}
use Rattle.std.specs.Prelude.{Ok}
use native.Mathlib.Omega.{arith}
use Rattle.measure.proofs.Items.{sized_short, sized_whole, comes_error}
use Rattle.measure.proofs.error.Goals as goal

pub returns-then-s-lt21 : goal.returns-then-s-lt21
unfolding error_item
returns-then-s-lt21 c =
    (tt, λ style placed. sized_short 21 _ _ c.if-s-lt21.true _ style placed)

pub returns : goal.returns
unfolding error_item
returns c =
    let t = traverse_of le32 (drop 1 c.args.s.now) in
    ((c.requires, omega arith), λ style placed. sized_whole 21 c.args.s.now (error_of t) (Ok (Made 21 c.args.len 23)) c.args.len style placed c.if-s-lt21.false (comes_error t c.args.len style placed))
