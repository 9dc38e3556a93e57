-- `summary::write_bits` meets its contract. Assumes nothing.
use Rattle.summary.proofs.Words.{wrote_two, wrote_at}
use Rattle.std.proofs.Common.{◌≡◌, ◌+◌, ◌-◌, ◌*◌, ◌/◌, ◌%◌, ◌≤◌, arith}
use Rattle.summary.proofs.Words.{wrote_two}
use Rattle.summary.proofs.write_bits.Goals as goal

pub returns-then-size-part : goal.returns-then-size-part
returns-then-size-part c =
    let e : 64 * (c.args.k / 64) + c.args.k % 64 ≡ c.args.k = omega arith in
    wrote_at e c.write_in.ensures

pub returns-else-size-part : goal.returns-else-size-part
returns-else-size-part c =
    let e : 64 * (c.args.k / 64) + c.args.k % 64 ≡ c.args.k = omega arith in
    let d : 64 * (c.args.k / 64 + 1) + 0 ≡ c.args.k + (64 - c.args.k % 64) = omega arith in
    let h : 64 - c.args.k % 64 ≤ c.args.size = omega (arith, c.if-size-part.false) in
    wrote_two c.args.words.now c.write_in-else-size-part.new.words c.write_in-else-size-part-2.new.words c.args.k (64 - c.args.k % 64) c.args.size c.args.v h
    (wrote_at e c.write_in-else-size-part.ensures) (wrote_at d c.write_in-else-size-part-2.ensures)
