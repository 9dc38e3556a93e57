-- `summary::move_up` meets its contract. Assumes nothing.
use Rattle.summary.proofs.Words.{put_from, put_none, moved_up}
use Rattle.std.proofs.Common.{◌≡◌, ◌+◌, ◌-◌, refl, ◌∙◌, arith}
use Rattle.format.specs.Summary.{bit_at}
use Rattle.summary.proofs.Words.{put_none, moved_up}
use Rattle.summary.proofs.move_up.Goals as goal

pub loop-left-init : goal.loop-left-init
loop-left-init c =
    (omega arith, refl, put_none c.args.words.now c.args.to c.args.size (λ i. bit_at c.args.words.now (c.args.from + i)))

pub loop-left-preserved : goal.loop-left-preserved
loop-left-preserved c =
    let left = c.loop-left.left in
    let part = c.part_of-part.result in
    let h : left - part + part ≡ left = omega (arith) in (
      omega (arith),
      c.write_bits.auto.words ∙ c.loop-left.invariant.1,
      moved_up (left - part) left part c.read_bits-v.result c.requires.0 h c.loop-left.invariant.0 c.loop-left.invariant.2
          c.read_bits-v.ensures c.write_bits.ensures,
    )

pub returns : goal.returns
returns c =
    let e : c.loop-left.left ≡ 0 = omega (arith, c.loop-left-test.false) in put_from e c.loop-left.invariant.2
