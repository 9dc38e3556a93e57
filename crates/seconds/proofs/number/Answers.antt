-- `number` meets its contract: what is left spells, from the number so far, what the whole spells. Assumes nothing.
use Prim.Native.Nat.{ℕ, ◌+◌, ◌-◌, ◌*◌}
use mathlib.Core.Path.{◌≡◌, sym, ap, ◌∙◌}
use native.Mathlib.Omega.{arith}
use native.Mathlib.Numerals.{add-one}
use lib.ListN.{length, get_or}
use lib.Seq.{drop-length}
use borrow.Author.Tests.{le-leb}
use Rattle.format.specs.Bytes.{pick}
use Rattle.format.specs.Times.{all_digits, decimal_from}
use Rattle.seconds.specs.Reading.{number_from}
use Rattle.seconds.proofs.Digits.{below, above, large, on}
use Rattle.seconds.proofs.number.Goals.{then-b-lt48-via-then-b-lt48, then-b-lt48-via-else-b-lt48+then-b-gt57}
use Rattle.seconds.proofs.number.Goals as goal

pub returns-then-b-lt48 : goal.returns-then-b-lt48
returns-then-b-lt48 c =
    let i = c.loop-b.b-index in
    let n = c.loop-b.n in
    elim c.then-b-lt48.branch [
      | then-b-lt48-via-then-b-lt48 w ↦ sym (c.loop-b.invariant.1 ∙ below n c.args.s.now i c.loop-b-test.true w.if-b-lt48.true)
      | then-b-lt48-via-else-b-lt48+then-b-gt57 w ↦ sym (c.loop-b.invariant.1 ∙ above n c.args.s.now i c.loop-b-test.true w.if-b-gt57.true)
    ]

pub returns-then-n-gt4294967295 : goal.returns-then-n-gt4294967295
returns-then-n-gt4294967295 c =
    sym (c.loop-b.invariant.1 ∙ large c.loop-b.n c.args.s.now c.loop-b.b-index c.loop-b-test.true c.if-b-lt48.false c.if-b-gt57.false
    (omega (arith, c.if-n-gt4294967295.true, c.from.ensures)))

pub loop-b-preserved : goal.loop-b-preserved
loop-b-preserved c =
    let i = c.loop-b.b-index in
    let n = c.loop-b.n in
    let e : n * 10 + c.from.result ≡ n * 10 + (get_or c.args.s.now i 0 - 48) = ap (λ (x : ℕ). n * 10 + x) c.from.ensures in (
      omega (arith, c.if-n-gt4294967295.false),
      rw (add-one, e) (c.loop-b.invariant.1 ∙ on n c.args.s.now i c.loop-b-test.true c.if-b-lt48.false c.if-b-gt57.false),
    )

pub returns : goal.returns
unfolding number_from all_digits decimal_from pick
returns c =
    let n = c.loop-b.n in
    let e : c.loop-b.b-index ≡ length c.args.s.now = omega arith in
    sym (c.loop-b.invariant.1 ∙ rw (e, drop-length c.args.s.now) (simp (le-leb n 4294967295 c.loop-b.invariant.0)))
