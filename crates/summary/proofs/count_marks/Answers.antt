-- `summary::count_marks` meets its contract. Assumes nothing.
use Rattle.std.proofs.Common.{◌≡◌, arith}
use Rattle.format.specs.Summary.{count_in, rank_in}
use Rattle.summary.proofs.count_marks.Goals as goal

pub returns : goal.returns
unfolding count_in
returns c =
    let p : c.rank-before.result ≡ rank_in c.args.words.now c.args.n c.args.a = c.rank-before.ensures in
    let q : c.rank-to.result ≡ rank_in c.args.words.now c.args.n c.args.b = c.rank-to.ensures in
    omega (arith, c.wrapping_sub_u64.ensures.value, c.wrapping_sub_u64.type_inv, c.rank-before.type_inv, c.rank-to.type_inv)
