-- `summary::move_down` meets its contract. Assumes nothing.
use Rattle.summary.proofs.Words.{put_to, put_none, moved_down}
use Rattle.std.proofs.Common.{◌≡◌, ◌+◌, refl, ◌∙◌, arith}
use Rattle.format.specs.Summary.{bit_at}
use Rattle.summary.proofs.Words.{put_none, moved_down}
use Rattle.summary.proofs.move_down.Goals as goal

pub loop-done-init : goal.loop-done-init
loop-done-init c =
    (omega arith, refl, put_none c.args.words.now c.args.to 0 (λ i. bit_at c.args.words.now (c.args.from + i)))

pub loop-done-preserved : goal.loop-done-preserved
loop-done-preserved c =
    let done = c.loop-done.done in
    let part = c.part_of-part.result in (
      omega (arith),
      c.write_bits.auto.words ∙ c.loop-done.invariant.1,
      moved_down done part c.read_bits-v.result c.requires.0 c.loop-done.invariant.2
          c.read_bits-v.ensures c.write_bits.ensures,
    )

pub returns : goal.returns
returns c =
    let e : c.loop-done.done ≡ c.args.size = omega (arith, c.loop-done-test.false) in put_to e c.loop-done.invariant.2
