-- `summary::rank` meets its contract. Assumes nothing.
use Rattle.std.proofs.Common.{◌-◌, ◌/◌, get_or, sym, ◌∙◌, lt_of_le_of_lt, arith}
use lib.Count.{ones-le}
use lib.Bits.{bit_and, and_le_l}
use Rattle.summary.proofs.Asking.{rank_zero, rank_at}
use Rattle.summary.proofs.rank.Goals as goal

pub returns-then-k-eq0 : goal.returns-then-k-eq0
returns-then-k-eq0 c =
    sym (rank_zero c.args.words.now c.args.n c.args.k c.if-k-eq0.true)

pub overflow_cast-part : goal.overflow_cast-part
overflow_cast-part c =
    let w = get_or c.args.words.now ((c.args.k - 1) / 64) 0 in
    let h = ones-le 64 (bit_and w c.low_bits-low.result)
    (lt_of_le_of_lt (and_le_l w c.low_bits-low.result) (c.type_inv.words ((c.args.k - 1) / 64)).fits) in
    record { fits = omega arith }

pub returns : goal.returns
returns c =
    c.wrapping_add_u64.ensures.value
    ∙ rank_at c.args.words.now c.args.n c.args.k c.words_for.result c.low_bits-low.result c.if-k-eq0.false c.requires.0
    c.words_for.ensures c.low_bits-low.ensures
